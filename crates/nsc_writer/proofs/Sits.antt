-- The nodes of a writer's entries are those of the live entries of its history.
use Rattle.std.proofs.Common.{◌≡◌, ◌<◌, inl, inr, List, [], ◌∷◌, refl, sym, ap, subst, ◌∙◌, arith}
use Rattle.nsc_words.specs.declared.node.Placed.{Placed}
use Rattle.nsc_words.specs.Laid.{Among}
use Rattle.nsc_model.specs.declared.record.Record.{Record}
use Rattle.nsc_model.specs.Entry.{Entry}
use Rattle.nsc_model.specs.Kinds.{type_number}
use Rattle.nsc_model.specs.Live.{HasEntry}
use Rattle.nsc_model.specs.Machine.{Cache, Kept}
use Rattle.nsc_laws.specs.Calls.{Tells, entries_of}
use Rattle.nsc_rule.specs.Entries.{entries_in, entry_of, kept_in, kind_of}
use Rattle.nsc_rule.specs.Plans.{Sits}
use Rattle.nsc_shelf.proofs.Slide.{Has, node_of, usable_has}

pub has_among : (k : Kept) (ks : List Kept) → Has k ks → HasEntry (entries_of ks) k.entry
has_among k [] has = absurd has
has_among k (l ∷ ks) (inl is) = inl (ap (λ (x : Kept). x.entry) (sym is))
has_among k (l ∷ ks) (inr more) = inr (has_among k ks more)

among_has : (ks : List Kept) (e : Entry) → HasEntry (entries_of ks) e → (k : Kept) × Has k ks × (k.entry ≡ e)
among_has [] e among = absurd among
among_has (k ∷ ks) e (inl is) = (k, inl refl, is)
among_has (k ∷ ks) e (inr more) = let w = among_has ks e more in (w.0, inr w.1, w.2)

pub sits_told : (h : List Record) (cache : Cache) (nodes : List Placed) → Tells h cache → entries_in nodes ≡ cache.entries → ((q : Placed) → Among q nodes → q.node.number < cache.inserted) → ((q : Placed) → Among q nodes → type_number (kind_of q.node.kind) ≡ q.node.kind) → Sits h nodes
sits_told h cache nodes told same numbers kinds = record {
  live = λ q among usable. told.entries_are.live (entry_of q) (has_among (kept_in q) cache.entries (subst (Has (kept_in q)) same (usable_has nodes q among usable)));
  found = λ e live.
      let w = among_has cache.entries e (told.entries_are.all e live) in
      let n = node_of nodes w.0 (subst (Has w.0) (sym same) w.1) in
      (n.0, n.1, n.2, ap (λ (k : Kept). k.entry) (sym n.3) ∙ w.2);
  numbers = λ q among. let low = numbers q among in let all = told.loads_are in omega arith;
  kinds = kinds;
}
