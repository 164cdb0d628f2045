-- Lines of a connection to the gate, and what answers them.
use Rattle.std.specs.Prelude.{◌≡◌, ℕ, ◌+◌, ◌≤◌, List, All, flat_map, length, map, sum_by}
use Rattle.nsc_outside.specs.Stream.{Grows, GrowsByFront}
use Rattle.nsc_outside.specs.StreamAt.{StreamAt}
use Rattle.nsc_model.specs.declared.databases.Databases.{Databases}
use Rattle.nsc_model.specs.declared.store.Store as store
use Rattle.nsc_model.specs.Reads.{Rose}
use Rattle.nsc_model.specs.Entry.{line_limit}
use Rattle.nsc_client.specs.Gate.{AreCalm, IsTold, searches_of}
use Rattle.nsc_client.specs.GateText.{GateText, Told}

-- a line, what was asked for it, and the line that answers it
pub record Exchange : Type 0 where
  pub line : List ℕ
  pub asked : List Told
  pub text : List ℕ

-- the line is not too long; what answers it says the replies that were asked for, and each of these answers its request
pub record IsExchange {S P : Type 0} (g : store.Ghosts S P) (before after : Databases P) (e : Exchange) : Type 0 where
  pub fits : length e.line ≤ line_limit
  pub says : GateText e.line e.asked e.text
  pub told : All (IsTold g before after) e.asked

-- a text answers lines, one after another, after at least as many searches in place as replies were asked for
pub record AreAnswered {S P : Type 0} (g : store.Ghosts S P) (before after : Databases P) (lines : List (List ℕ)) (text : List ℕ) : Type 0 where
  pub exchanges : List Exchange
  pub lines_are : map (λ (e : Exchange). e.line) exchanges ≡ lines
  pub text_is : flat_map (λ (e : Exchange). e.text) exchanges ≡ text
  pub each : All (IsExchange g before after) exchanges
  pub searched : searches_of g before + sum_by (λ (e : Exchange). length e.asked) exchanges ≤ searches_of g after
  pub calm : AreCalm g before after

-- the output took the answers to lines
pub record TakesAnswers {S P : Type 0} (g : store.Ghosts S P) (before after : Databases P) (output output' : StreamAt) (lines : List (List ℕ)) : Type 0 where
  pub text : List ℕ
  pub answered : AreAnswered g before after lines text
  pub grown : Grows output.bytes output'.bytes text
  pub calm : output'.faults ≡ output.faults

-- the output failed, and took a front of the answers to lines
pub record TakesFront {S P : Type 0} (g : store.Ghosts S P) (before after : Databases P) (output output' : StreamAt) (lines : List (List ℕ)) : Type 0 where
  pub text : List ℕ
  pub answered : AreAnswered g before after lines text
  pub front : GrowsByFront output.bytes output'.bytes text
  pub failed : Rose output.faults output'.faults
