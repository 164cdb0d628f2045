-- Words that go on in place of others.
use Rattle.std.specs.Prelude.{◌≡◌, ◌≢◌, ℕ, ◌+◌, ◌<◌, true, None, slice_index}
use Rattle.nsc_words.specs.declared.layout.Layout.{Layout}
use Rattle.nsc_words.specs.Laid.{Laid, slid}
use Rattle.nsc_words.specs.Layout.{arena_start}
use Rattle.nsc_rule.specs.declared.view.Plan.{Plan}

-- the history and the counts go on, CYCLE by two, and the usable nodes stand behind each other
pub record IsCopied (layout : Layout) (old new : Plan) : Type 0 where
  pub layout_is : new.layout ≡ layout
  pub seen : new.seen ≡ old.seen
  pub nodes : new.nodes ≡ slid (arena_start layout) old.nodes
  pub settled : new.counted ≡ true
  pub active : new.retired ≡ None
  pub laid : Laid new.words layout new.nodes
  pub cycle : slice_index new.words 0 ≡ slice_index old.words 0 + 2
  pub heads : (i : ℕ) → 0 < i → i < 16 → i ≢ 3 → slice_index new.words i ≡ slice_index old.words i
