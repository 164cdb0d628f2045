-- Lines that are answered, in one part of a call after another.
use Rattle.std.proofs.Common.{◌≡◌, ◌∙◌, ℕ, List, [], ◌∷◌, ◌++◌, Option, append-nil, length, map, refl, sym, ap, arith, ◌≤◌}
use Rattle.std.specs.Prelude.{flat_map}
use Rattle.std.proofs.lemmas.Grind.{flat_map-append}
use Rattle.std.proofs.lemmas.List.{map-append}
use Rattle.std.proofs.lemmas.List.Elements.{All-append, All-cons, All-nil, All-weaker}
use Rattle.std.proofs.lemmas.List.Sums.{sum_by-append}
use Rattle.nsc_model.specs.declared.databases.Databases.{Databases}
use Rattle.nsc_model.specs.declared.row.Reply.{Reply}
use Rattle.nsc_model.specs.declared.store.Store as store
use Rattle.nsc_model.specs.Entry.{line_limit}
use Rattle.nsc_client.specs.Exchanges.{AreAnswered, Exchange, IsExchange}
use Rattle.nsc_client.specs.Gate.{IsTold, SeeMore}
use Rattle.nsc_client.specs.GateText.{Told, asking_of}
use Rattle.nsc_client.specs.Hits.{Searches}
use Rattle.nsc_client.specs.Replying.{IsAnswered, said}
use Rattle.nsc_client.proofs.Answering.{calm_on, told_after, told_before}

exchange_before : {S P : Type 0} (g : store.Ghosts S P) (before mid after : Databases P) → SeeMore g before mid → (e : Exchange) → IsExchange g mid after e → IsExchange g before after e
exchange_before g before mid after more e is = record {
  fits = is.fits;
  says = is.says;
  told = All-weaker (IsTold g mid after) (IsTold g before after) (λ (t : Told). told_before g before mid after t more) e.asked is.told;
}

exchange_after : {S P : Type 0} (g : store.Ghosts S P) (before mid after : Databases P) → SeeMore g mid after → (e : Exchange) → IsExchange g before mid e → IsExchange g before after e
exchange_after g before mid after more e is = record {
  fits = is.fits;
  says = is.says;
  told = All-weaker (IsTold g before mid) (IsTold g before after) (λ (t : Told). told_after g before mid after t more) e.asked is.told;
}

-- ---- what is answered

pub none_answered : {S P : Type 0} (g : store.Ghosts S P) (before after : Databases P) → Searches g before after 0 → AreAnswered g before after [] []
none_answered g before after s = record {
  exchanges = [];
  lines_are = refl;
  text_is = refl;
  each = All-nil (IsExchange g before after);
  searched = s.searched;
  calm = s.calm;
}

pub one_answered : {S P : Type 0} (g : store.Ghosts S P) (before after : Databases P) (line text : List ℕ) (last : Option Reply) → length line ≤ line_limit
    → IsAnswered g before after (asking_of line) last → text ≡ said last ++ 10 ∷ [] → AreAnswered g before after (line ∷ []) text
one_answered g before after line text last fits is text_is =
    let e : Exchange = record { line = line; asked = is.asked; text = text } in
    record {
      exchanges = e ∷ [];
      lines_are = refl;
      text_is = append-nil text;
      each = All-cons (IsExchange g before after) e [] (record { fits = fits; says = record { are_asked = is.are_asked; text_is = text_is ∙ ap (λ (t : List ℕ). t ++ 10 ∷ []) (sym is.says) }; told = is.told }) (All-nil (IsExchange g before after));
      searched = (let some = is.searched in omega arith);
      calm = is.calm;
    }

pub answered_on : {S P : Type 0} (g : store.Ghosts S P) (before mid after : Databases P) (lines more : List (List ℕ)) (first second : List ℕ) → SeeMore g before mid → SeeMore g mid after
    → AreAnswered g before mid lines first → AreAnswered g mid after more second → AreAnswered g before after (lines ++ more) (first ++ second)
answered_on g before mid after lines more first second seen on one two =
    let line = λ (e : Exchange). e.line in
    let text = λ (e : Exchange). e.text in
    let asked = λ (e : Exchange). length e.asked in
    record {
      exchanges = one.exchanges ++ two.exchanges;
      lines_are = map-append line one.exchanges two.exchanges ∙ ap (λ (l : List (List ℕ)). l ++ map line two.exchanges) one.lines_are ∙ ap (λ (l : List (List ℕ)). lines ++ l) two.lines_are;
      text_is = flat_map-append text one.exchanges two.exchanges ∙ ap (λ (l : List ℕ). l ++ flat_map text two.exchanges) one.text_is ∙ ap (λ (l : List ℕ). first ++ l) two.text_is;
      each = All-append (IsExchange g before after) one.exchanges two.exchanges
          (All-weaker (IsExchange g before mid) (IsExchange g before after) (exchange_after g before mid after on) one.exchanges one.each)
          (All-weaker (IsExchange g mid after) (IsExchange g before after) (exchange_before g before mid after seen) two.exchanges two.each);
      searched = (let a = one.searched in let b = two.searched in omega (arith, sum_by-append asked one.exchanges two.exchanges));
      calm = calm_on g before mid after one.calm two.calm;
    }
