use Rattle.std.proofs.Common.{◌≡◌, ℕ, ◌<◌, [], ◌∷◌, Bool, true, false, length, Some, sym, ap, subst, ◌∙◌, arith}
use Rattle.std.specs.Bool.{OnTrue}
use Rattle.nsc_model.specs.Live.{Rise}
use Rattle.nsc_model.specs.declared.record.Ending.TheVariants.{Invalidated}
use Rattle.nsc_model.specs.Machine.{Kept, by_invalidation, ends_of}
use Rattle.nsc_laws.specs.Calls.{entries_of}
use Rattle.nsc_shelf.specs.declared.entry.EntryAt.{EntryAt}
use Rattle.nsc_shelf.specs.Shelf.{IsTold, entry_from, has_number}
use Rattle.nsc_writer.specs.Writer.{Writer, without_entry}
use Rattle.nsc_writer.proofs.Ends.{EndsSome, first_left, first_numbered, next_ended, none_ended, none_left}
use Rattle.nsc_writer.proofs.Rest.{told_entry, told_none}
use Rattle.nsc_writer.proofs.writer.Writer.end_all.Goals as goal

pub entries-init : goal.entries-init
entries-init c = none_ended c.args.self.now c.requires

pub end_by-requires-clause-allowed : goal.end_by-requires-clause-allowed
end_by-requires-clause-allowed c e live same = tt

-- what one round does
done : (b : Bool) {P : Type 0} → b ≡ true → OnTrue b P → P
done true is p = p
done false is p = absurd cc

round : (before w at w' : Writer) (from : ℕ) (said : EntryAt) (ended : Bool) → EndsSome before w from → at ≡ w → IsTold (entry_from from w.cache.entries) (Some said) → Rise (entries_of at.cache.entries) → ended ≡ has_number said.number at.cache.entries → OnTrue ended (w' ≡ without_entry said.number Invalidated at) → EndsSome before w' said.next × (length w'.cache.entries < length w.cache.entries)
round before w at w' from said ended some same told rises live ends =
    let t = told_entry (entry_from from w.cache.entries) said told in
    let k : Kept = t.0 in
    let split = first_left from w.cache.entries k some.left t.1 in
    let number : said.number ≡ k.entry.number = ap (λ (e : EntryAt). e.number) t.2 in
    let is : ended ≡ true = live ∙ (λ i. has_number (number i) (same i).cache.entries) ∙ ap (has_number k.entry.number) split.1 ∙ first_numbered k split.0 in
    let now : w' ≡ without_entry k.entry.number Invalidated w = done ended is ends ∙ (λ i. without_entry (number i) Invalidated (same i)) in
    let next = next_ended before w w' from k split.0 some split.1 (subst (λ (v : Writer). Rise (entries_of v.cache.entries)) same rises) now in
    let size : length w.cache.entries ≡ length (k ∷ split.0) = ap length split.1 in
    let size' : length w'.cache.entries ≡ length split.0 = ap length next.1 in
    (subst (EndsSome before w') (sym (ap (λ (e : EntryAt). e.next) t.2)) next.0, omega arith)

pub entries-preserved : goal.entries-preserved
entries-preserved c = (round c.args.self.now c.entries.self c.next.new.self c.end_by.new.self c.entries.from c.in-Some.entry c.end_by.result c.entries.invariant c.next.ensures.same c.in-Some.ensures.told c.learn.ensures.told.entries_are.rising c.end_by.ensures.live c.end_by.ensures.ended).0

pub entries-smaller : goal.entries-smaller
entries-smaller c = (round c.args.self.now c.entries.self c.next.new.self c.end_by.new.self c.entries.from c.in-Some.entry c.end_by.result c.entries.invariant c.next.ensures.same c.in-Some.ensures.told c.learn.ensures.told.entries_are.rising c.end_by.ensures.live c.end_by.ensures.ended).1

pub returns : goal.returns
returns c =
    let some = c.entries.invariant in
    let none = none_left c.entries.from c.entries.self.cache.entries some.left (told_none (entry_from c.entries.from c.entries.self.cache.entries) c.in_default.ensures.told) in
    let w : Writer = c.entries.self in
    c.next.ensures.same ∙ (λ i. record w { cache = record w.cache { entries = none i } }) ∙ sym (λ i. record w { cache = record w.cache { entries = [] }; seen = ends_of by_invalidation (none i) w.seen }) ∙ some.whole
