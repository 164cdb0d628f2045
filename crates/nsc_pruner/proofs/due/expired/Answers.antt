use Rattle.std.proofs.Common.{◌≡◌, ◌≤◌, ◌++◌, ◌<◌, ℕ, List, [], ◌∷◌, ◌∙◌, length, map, Some, None, ap, refl, subst, sym, arith}
use Rattle.std.proofs.lemmas.List.{append-nil, append_assoc}
use Rattle.nsc_base.specs.Buf.{Buf}
use Rattle.nsc_laws.specs.Calls.{entries_of}
use Rattle.nsc_model.specs.Live.{Rise}
use Rattle.nsc_model.specs.Machine.{Kept, due_of}
use Rattle.nsc_shelf.specs.declared.entry.EntryAt.{EntryAt}
use Rattle.nsc_shelf.specs.Shelf.{IsTold, entry_from}
use Rattle.nsc_writer.specs.Writer.{Writer}
use Rattle.nsc_pruner.specs.Due.{Due, due_from}
use Rattle.nsc_writer.proofs.Rest.{due_more, due_same, first_again, rest_all, rest_from, rest_next, rest_none, told_entry, told_none}
use Rattle.nsc_pruner.proofs.due.expired.Goals as goal

-- the entry that a call gives, and what is left behind it
record Next (from : ℕ) (ks : List Kept) (e : EntryAt) : Type 0 where
  kept : Kept
  is_told : IsTold (Some kept) (Some e)
  own : entry_from e.number ks ≡ Some kept
  timeout : e.timeout ≡ kept.entry.timeout
  left : rest_from from ks ≡ kept ∷ rest_from e.next ks

next_of : (from : ℕ) (ks : List Kept) (e : EntryAt) → Rise (entries_of ks) → IsTold (entry_from from ks) (Some e) → Next from ks e
next_of from ks e rising told =
    let t = told_entry (entry_from from ks) e told in
    let number : e.number ≡ t.0.entry.number = ap (λ (x : EntryAt). x.number) t.2 in
    record {
      kept = t.0;
      is_told = ap (λ (x : EntryAt). Some x) t.2;
      own = ap (λ (n : ℕ). entry_from n ks) number ∙ (first_again from ks t.0 t.1).1;
      timeout = ap (λ (x : EntryAt). x.timeout) t.2;
      left = (rest_next from ks t.0 rising t.1).0 ∙ ap (λ (x : EntryAt). t.0 ∷ rest_from x.next ks) (sym t.2);
    }

pub entries-init : goal.entries-init
entries-init c = record {
  same = refl;
  key_limit_is = ap (λ (b : Buf). b.limit) c.in_ok-key.ensures;
  reply_limit_is = ap (λ (b : Buf). b.limit) c.in_ok-reply.ensures;
  listed = let none : c.new-all.result.items ≡ [] = c.new-all.ensures.items in (λ i. none i ++ map (due_from c.args.limit) (due_of c.args.now (rest_all c.args.writer.now.cache.entries i)));
}

-- fewer are left behind it
less_left : (before w w' : Writer) (from : ℕ) (e : EntryAt) → w ≡ before → w' ≡ before → Next from before.cache.entries e → length (rest_from e.next w'.cache.entries) < length (rest_from from w.cache.entries)
less_left before w w' from e same same' next =
    let ks : List Kept = before.cache.entries in
    let was : length (rest_from from w.cache.entries) ≡ length (next.kept ∷ rest_from e.next ks) = ap (λ (x : Writer). length (rest_from from x.cache.entries)) same ∙ ap length next.left in
    let now : length (rest_from e.next w'.cache.entries) ≡ length (rest_from e.next ks) = ap (λ (x : Writer). length (rest_from e.next x.cache.entries)) same' in
    omega arith

next_in : (before w : Writer) (from : ℕ) (e : EntryAt) → w ≡ before → Rise (entries_of before.cache.entries) → IsTold (entry_from from w.cache.entries) (Some e) → Next from before.cache.entries e
next_in before w from e same rising told = next_of from before.cache.entries e rising (subst (λ (x : Writer). IsTold (entry_from from x.cache.entries) (Some e)) same told)

pub entries-smaller : goal.entries-smaller
entries-smaller c =
    let next = next_in c.args.writer.now c.entries.writer c.entries.from c.in-Some.entry c.entries.invariant.same c.learn.ensures.told.entries_are.rising c.in-Some.ensures.told in
    less_left c.args.writer.now c.entries.writer c.next.new.self c.entries.from c.in-Some.entry c.entries.invariant.same (c.next.ensures.same ∙ c.entries.invariant.same) next

pub entries-smaller-in_ok-push : goal.entries-smaller-in_ok-push
entries-smaller-in_ok-push c =
    let next = next_in c.args.writer.now c.entries.writer c.entries.from c.in-Some.entry c.entries.invariant.same c.learn.ensures.told.entries_are.rising c.in-Some.ensures.told in
    less_left c.args.writer.now c.entries.writer c.due_at.new.writer c.entries.from c.in-Some.entry c.entries.invariant.same (c.due_at.ensures.same ∙ c.next.ensures.same ∙ c.entries.invariant.same) next

pub entries-preserved : goal.entries-preserved
entries-preserved c =
    let ks : List Kept = c.args.writer.now.cache.entries in
    let f : Kept → Due = due_from c.args.limit in
    let next = next_in c.args.writer.now c.entries.writer c.entries.from c.in-Some.entry c.entries.invariant.same c.learn.ensures.told.entries_are.rising c.in-Some.ensures.told in
    let early : c.args.now ≤ next.kept.entry.timeout = (let t = c.if-entry-now.false in let e = next.timeout in omega arith) in
    record {
      same = c.next.ensures.same ∙ c.entries.invariant.same;
      key_limit_is = c.entries.invariant.key_limit_is;
      reply_limit_is = c.entries.invariant.reply_limit_is;
      listed =
          ap (λ (l : List Kept). c.entries.all.items ++ map f l) (sym (due_same c.args.now next.kept (rest_from c.in-Some.entry.next ks) early))
          ∙ ap (λ (l : List Kept). c.entries.all.items ++ map f (due_of c.args.now l)) (sym next.left) ∙ c.entries.invariant.listed;
    }

pub entries-preserved-in_ok-push : goal.entries-preserved-in_ok-push
entries-preserved-in_ok-push c =
    let ks : List Kept = c.args.writer.now.cache.entries in
    let f : Kept → Due = due_from c.args.limit in
    let next = next_in c.args.writer.now c.entries.writer c.entries.from c.in-Some.entry c.entries.invariant.same c.learn.ensures.told.entries_are.rising c.in-Some.ensures.told in
    let same : c.next.new.self ≡ c.args.writer.now = c.next.ensures.same ∙ c.entries.invariant.same in
    let late : next.kept.entry.timeout < c.args.now = (let t = c.if-entry-now.true in let e = next.timeout in omega arith) in
    let own : entry_from c.in-Some.entry.number c.next.new.self.cache.entries ≡ Some next.kept = ap (λ (x : Writer). entry_from c.in-Some.entry.number x.cache.entries) same ∙ next.own in
    let due = c.in_ok-due_at.ensures.due next.kept own next.is_told in
    let rest : List Kept = rest_from c.in-Some.entry.next ks in
    let pushed : c.push.new.self.items ≡ c.entries.all.items ++ f next.kept ∷ [] = c.in_ok-push.ensures.items ∙ ap (λ (d : Due). c.entries.all.items ++ d ∷ []) due in
    record {
      same = c.due_at.ensures.same ∙ same;
      key_limit_is = c.due_at.ensures.key;
      reply_limit_is = c.due_at.ensures.reply;
      listed =
          ap (λ (l : List Due). l ++ map f (due_of c.args.now rest)) pushed ∙ append_assoc c.entries.all.items (f next.kept ∷ []) (map f (due_of c.args.now rest))
          ∙ ap (λ (l : List Kept). c.entries.all.items ++ map f l) (sym (due_more c.args.now next.kept rest late))
          ∙ ap (λ (l : List Kept). c.entries.all.items ++ map f (due_of c.args.now l)) (sym next.left) ∙ c.entries.invariant.listed;
    }

pub returns-clause-all : goal.returns-clause-all
returns-clause-all c =
    let f : Kept → Due = due_from c.args.limit in
    let told = subst (λ (w : Writer). IsTold (entry_from c.entries.from w.cache.entries) None) c.entries.invariant.same c.in_default.ensures.told in
    let none = rest_none c.entries.from c.args.writer.now.cache.entries (told_none _ told) in
    sym (append-nil c.entries.all.items) ∙ ap (λ (l : List Kept). c.entries.all.items ++ map f (due_of c.args.now l)) (sym none) ∙ c.entries.invariant.listed
