use Rattle.std.proofs.Common.{◌≡◌, ◌≢◌, ℕ, ◌-◌, ◌≤◌, cond, ltb, length, Option, Some, None, true, false, refl, sym, ap, subst, ◌∙◌, arith}
use Rattle.std.proofs.lemmas.Bool.{le-ltb, lt-ltb, ne_eqb}
use Rattle.nsc_base.specs.Nodes.{node_words}
use Rattle.nsc_words.specs.declared.layout.Layout.{Layout}
use Rattle.nsc_model.specs.Answer.{Answer}
use Rattle.nsc_model.specs.Entry.{kept_limit}
use Rattle.nsc_model.specs.Machine.{Discarded, Full, Kept, Refusal, Spent, TooLarge, entry_words, last_count, live_entry, or_later, present_cause}
use Rattle.nsc_rule.specs.Map.{Map}
use Rattle.nsc_shelf.specs.Shelf.{number_of}
use Rattle.nsc_writer.specs.declared.loaded.Inserted.TheVariants as inserted
use Rattle.nsc_writer.specs.declared.loaded.Stamp.{Stamp}
use Rattle.nsc_writer.specs.Loaded.{Loaded, kept_of}
use Rattle.nsc_writer.specs.Writer.{SaysRefused, Writer, refusal_of}
use Rattle.nsc_writer.proofs.writer.Writer.refusal.Goals as goal
use Rattle.nsc_writer.proofs.writer.Writer.refusal.Goals.{After-node_words-need}

-- nothing but want of room can refuse it
record HasRoomAlone (w : Writer) (l : Loaded) (need room : ℕ) : Type 0 where
  short : length l.answer.bytes ≤ kept_limit
  noted : w.cache.epoch ≤ l.stamp.epoch
  new : live_entry l.request w.cache.entries ≡ None
  count : w.cache.inserted ≢ last_count
  words : entry_words (kept_of l w.cache.inserted).entry ≡ need
  arena : w.layout.arena ≡ room

by_room : (w : Writer) (l : Loaded) (need room : ℕ) → HasRoomAlone w l need room → refusal_of w l ≡ cond (ltb (room - w.cache.used) need) (Some (Full need (room - w.cache.used))) None
by_room w l need room h =
    let one = le-ltb kept_limit (length l.answer.bytes) h.short in
    let two = le-ltb l.stamp.epoch w.cache.epoch h.noted in
    let three = ne_eqb w.cache.inserted last_count h.count in
    let words = h.words in
    let arena = h.arena in
    let new = h.new in
    λ i. cond (one i) (Some (TooLarge (length l.answer.bytes))) (or_later (cond (two i) (Some (Discarded l.stamp.epoch w.cache.epoch)) (present_cause (new i)))
    (cond (three i) (Some (Spent last_count)) (cond (ltb (arena i - w.cache.used) (words i)) (Some (Full (words i) (arena i - w.cache.used))) None)))

none_numbered : (o : Option Kept) → None ≡ number_of o → o ≡ None
none_numbered None e = refl
none_numbered (Some k) e = absurd cc

alone : (c : After-node_words-need) → HasRoomAlone c.args.self.now c.args.loaded.now c.node_words-need.result c.layout.result.arena
alone c =
    let l : Loaded = c.args.loaded.now in
    let bytes : c.bytes-length.result.now ≡ l.answer.bytes = c.bytes-length.ensures.value ∙ ap (λ (a : Answer). a.bytes) c.answer.ensures in
    let kind = c.kind.ensures in
    let key = c.key.ensures.value in
    let stamp = ap (λ (s : Stamp). s.epoch) c.stamp-noted.ensures in
    record {
      short = omega (arith, c.if-length-gt-KEPT_LIMIT.false, ap length bytes);
      noted = omega (arith, c.if-noted-epoch.false, stamp, c.epoch-epoch.ensures);
      new = none_numbered (live_entry l.request c.args.self.now.cache.entries) (c.in_default.ensures.number ∙ (λ i. number_of (live_entry (record { kind = kind i; key = key i }) c.args.self.now.cache.entries)));
      count = λ e. c.if-inserted-eq-LAST_COUNT.false (c.inserted-inserted.ensures.value ∙ e);
      words = sym (c.node_words-need.ensures ∙ (λ i. node_words (length (c.key-2.ensures.value i)) (length (bytes i))));
      arena = sym (ap (λ (m : Layout). m.arena) (c.layout.ensures.layout ∙ ap (λ (m : Map). m.layout) c.map.ensures));
    }

pub returns-then-need-free-clause-said : goal.returns-then-need-free-clause-said
returns-then-need-free-clause-said c =
    let w : Writer = c.args.self.now in
    let need : ℕ = c.node_words-need.result in
    let room : ℕ = c.layout.result.arena in
    let used = c.used.ensures.value in
    let full : ltb (room - w.cache.used) need ≡ true = lt-ltb (room - w.cache.used) need (let less = c.if-need-free.true in omega (arith, used)) in
    let is : refusal_of w c.args.loaded.now ≡ Some (Full need (room - c.used.result)) = by_room w c.args.loaded.now need room (alone (goal.at.returns-then-need-free-clause-said c).After-node_words-need)
    ∙ (λ i. cond (full i) (Some (Full need (room - sym used i))) None) in
    subst (λ (o : Option Refusal). SaysRefused o (Some (inserted.Full need (room - c.used.result)))) (sym is) refl

pub returns-clause-said : goal.returns-clause-said
returns-clause-said c =
    let w : Writer = c.args.self.now in
    let need : ℕ = c.node_words-need.result in
    let room : ℕ = c.layout.result.arena in
    let fits : ltb (room - w.cache.used) need ≡ false = le-ltb (room - w.cache.used) need (let more = c.if-need-free.false in omega (arith, c.used.ensures.value)) in
    let is : refusal_of w c.args.loaded.now ≡ None = by_room w c.args.loaded.now need room (alone (goal.at.returns-clause-said c).After-node_words-need) ∙ (λ i. cond (fits i) (Some (Full need (room - w.cache.used))) None) in
    subst (λ (o : Option Refusal). SaysRefused o None) (sym is) refl

pub returns-clause-free : goal.returns-clause-free
returns-clause-free c =
    let a = alone (goal.at.returns-clause-free c).After-node_words-need in
    record {
      short = a.short;
      noted = a.noted;
      new = a.new;
      count = omega (arith, c.inserted-inserted.ensures.value, c.inserted-inserted.ensures.bound, c.if-inserted-eq-LAST_COUNT.false);
      room = omega (arith, c.used.ensures.value, c.used.ensures.bound, c.if-need-free.false, a.words, a.arena);
    }
