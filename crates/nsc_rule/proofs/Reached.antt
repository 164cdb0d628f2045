-- What stands where a word of a chain leads, while no compaction is under way.
use Rattle.std.proofs.Common.{◌≡◌, ◌≢◌, ◌∙◌, ℕ, ◌+◌, ◌⊎◌, Bool, cond, eq-eqb, ⊎_elim, List, Option, Some, None, sym, ap, arith}
use Rattle.std.proofs.lemmas.Bool.{ne_eqb}
use Rattle.nsc_words.specs.declared.node.Placed.{Placed}
use Rattle.nsc_words.specs.Laid.{Among, Stands, bucket_in}
use Rattle.nsc_words.specs.Layout.{arena_start, bucket_of}
use Rattle.nsc_arena.specs.ReadBack.{placed_in}
use Rattle.nsc_arena.proofs.ReadBack.{node_back}
use Rattle.nsc_arena.proofs.Rows.{kept, within}
use Rattle.nsc_model.specs.Entry.{Entry}
use Rattle.nsc_rule.specs.declared.view.Plan.{Plan}
use Rattle.nsc_rule.specs.Entries.{entry_of, request_bucket, request_in}
use Rattle.nsc_rule.specs.Plans.{Shows, filled}
use Rattle.nsc_rule.specs.Searches.{IsWithin, entry_at}
use Rattle.nsc_rule.proofs.Filled.{filled_at}

-- a node of the plan stands in its words
pub stands_in : (p : Plan) (q : Placed) → Shows p.layout p.words p.seen p.nodes → Among q p.nodes → Stands p.words q
stands_in p q shows among =
    let at = within (arena_start p.layout) p.nodes q shows.laid.row among in
    kept (filled p.layout p.words p.nodes) p.words q (λ i more other. let far : q.place + i ≢ 3 = omega arith in sym (filled_at p.layout p.words p.nodes (q.place + i) far)) (shows.laid.stands q among)

-- and is read back
pub read_at : (p : Plan) (q : Placed) → Shows p.layout p.words p.seen p.nodes → Among q p.nodes → placed_in p.words q.place ≡ q
read_at p q shows among = node_back p.words q (stands_in p q shows among)

-- the bucket of its request is its own
pub bucket_is : (p : Plan) (q : Placed) → Shows p.layout p.words p.seen p.nodes → Among q p.nodes → request_bucket p.layout (request_in q) ≡ bucket_in p.layout q
bucket_is p q shows among = ap (λ (k : ℕ). bucket_of p.layout k q.node.key) (shows.sits.kinds q among)

pub within_is : (p : Plan) (q : Placed) → Shows p.layout p.words p.seen p.nodes → Among q p.nodes → IsWithin p.layout q.place (entry_of q)
within_is p q shows among =
    let at = within (arena_start p.layout) p.nodes q shows.laid.row among in
    let room = shows.laid.room in
    let node = (shows.laid.stands q among).node in
    record { low = at.0; high = omega arith; key = node.key; reply = node.reply; key_bytes = node.key_bytes; reply_bytes = node.reply_bytes }

-- ---- the entry where a word leads

pub entry_some : (words : List ℕ) (place : ℕ) → place ≢ 0 → entry_at words place ≡ Some (entry_of (placed_in words place))
entry_some words place other = ap (λ (b : Bool). let o : Option Entry = cond b None (Some (entry_of (placed_in words place))) in o) (ne_eqb place 0 other)

pub entry_none : (words : List ℕ) (place : ℕ) (e : Entry) → entry_at words place ≡ Some e → place ≢ 0
entry_none words place e is zero = absurd (off (sym (ap (λ (b : Bool). let o : Option Entry = cond b None (Some (entry_of (placed_in words place))) in o) (eq-eqb place 0 zero)) ∙ is)) where
  off : None ≡ Some e → ⊥
  off h = absurd cc

-- a place of a chain of this bucket
abbrev pub IsOnChain : Plan → ℕ → ℕ → Type 0
IsOnChain p bucket to = (to ≡ 0) ⊎ ((q : Placed) × Among q p.nodes × (q.place ≡ to) × (bucket_in p.layout q ≡ bucket))

pub record Landed (p : Plan) (bucket to : ℕ) (e : Entry) : Type 0 where
  pub node : Placed
  pub among : Among node p.nodes
  pub place : node.place ≡ to
  pub is : entry_of node ≡ e
  pub bucket_of_it : request_bucket p.layout e.request ≡ bucket

pub landed : (p : Plan) (bucket to : ℕ) (e : Entry) → Shows p.layout p.words p.seen p.nodes → IsOnChain p bucket to → entry_at p.words to ≡ Some e → Landed p bucket to e
landed p bucket to e shows chain is =
    let other : to ≢ 0 = entry_none p.words to e is in
    ⊎_elim
    (λ (z : to ≡ 0). absurd (other z))
    (λ (w : (q : Placed) × Among q p.nodes × (q.place ≡ to) × (bucket_in p.layout q ≡ bucket)).
    let back : placed_in p.words to ≡ w.0 = ap (placed_in p.words) (sym w.2) ∙ read_at p w.0 shows w.1 in
    let found : entry_of w.0 ≡ e = some_same (sym (ap (λ (q : Placed). Some (entry_of q)) back) ∙ sym (entry_some p.words to other) ∙ is) in
    let of_it : request_bucket p.layout e.request ≡ bucket = ap (λ (f : Entry). request_bucket p.layout f.request) (sym found) ∙ bucket_is p w.0 shows w.1 ∙ w.3 in
    let result : Landed p bucket to e = record { node = w.0; among = w.1; place = w.2; is = found; bucket_of_it = of_it } in
    result)
    chain where
      some_same : {a b : Entry} → Some a ≡ Some b → a ≡ b
      some_same h = cc
