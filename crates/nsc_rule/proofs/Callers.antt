-- What those who hold a pen need: that a step may be taken, by the nodes that they know.
use Rattle.std.proofs.Common.{◌≡◌, ◌∙◌, ℕ, ◌+◌, ◌≤◌, true, List, ◌∷◌, slice_index, sym, ap, subst}
use Rattle.nsc_words.specs.declared.node.Placed.{Placed}
use Rattle.nsc_words.specs.Laid.{Laid, Stands, bucket_in, end_of, words_in}
use Rattle.nsc_words.specs.Layout.{arena_start, table_words}
use Rattle.nsc_arena.specs.ReadBack.{nodes_in, placed_in}
use Rattle.nsc_arena.proofs.ReadBack.{node_back, read_back}
use Rattle.nsc_model.specs.declared.record.Record.TheVariants.{Load}
use Rattle.nsc_model.specs.History.{Legal}
use Rattle.nsc_model.specs.Kinds.{type_number}
use Rattle.nsc_rule.specs.declared.view.Plan.{Plan}
use Rattle.nsc_rule.specs.Entries.{entry_of, kind_of}
use Rattle.nsc_rule.specs.Plans.{IsEven, Shows, Sits, Sound, end_in}
use Rattle.nsc_rule.specs.Strokes.{IsReady, ShowsAgain}
use Rattle.nsc_rule.proofs.Filled.{filled_same}

-- while no insertion is under way, the words hold the nodes as they stand
pub whole : (p : Plan) → Sound p → p.counted ≡ true → IsEven p → Laid p.words p.layout p.nodes
whole p sound on even = subst (λ (ws : List ℕ). Laid ws p.layout p.nodes) (filled_same p.layout p.words p.nodes (sound.first_free on even)) (sound.shows even).laid

-- ---- an insertion

-- a node that was written behind the others
pub record IsWrittenNode (p : Plan) (link : ℕ) (n : Placed) : Type 0 where
  pub even : IsEven p
  pub counted : p.counted ≡ true
  pub place : n.place ≡ end_in p
  pub room : n.place + words_in n.node ≤ table_words p.layout
  pub stands : Stands p.words n
  pub usable : n.usable ≡ true
  pub kind : type_number (kind_of n.node.kind) ≡ n.node.kind
  pub bucket : link ≡ bucket_in p.layout n
  pub next : slice_index p.words (n.place + 7) ≡ slice_index p.words link
  pub legal : Legal (Load (entry_of n) ∷ p.seen)

pub ready_by : (p : Plan) (link : ℕ) (n : Placed) → IsWrittenNode p link n → (placed_in p.words n.place ≡ n) × IsReady p link n.place
ready_by p link n is =
    let back : placed_in p.words n.place ≡ n = node_back p.words n is.stands in
    let there = sym back in (
      back,
      record {
        even = is.even;
        counted = is.counted;
        place = is.place;
        room = subst (λ (q : Placed). n.place + words_in q.node ≤ table_words p.layout) there is.room;
        stands = subst (Stands p.words) there is.stands;
        usable = subst (λ (q : Placed). q.usable ≡ true) there is.usable;
        kind = subst (λ (q : Placed). type_number (kind_of q.node.kind) ≡ q.node.kind) there is.kind;
        bucket = subst (λ (q : Placed). link ≡ bucket_in p.layout q) there is.bucket;
        next = is.next;
        legal = subst (λ (q : Placed). Legal (Load (entry_of q) ∷ p.seen)) there is.legal;
      },
    )

-- ---- the end of a compaction

-- words that hold nodes of the live entries
pub slid_by : (p : Plan) (nodes : List Placed) → Laid p.words p.layout nodes → Sits p.seen nodes → ShowsAgain p
slid_by p nodes laid sits =
    let same : nodes_in p.words p.layout ≡ nodes = read_back p.words p.layout nodes laid in
    let shows : Shows p.layout p.words p.seen nodes = record { laid = subst (λ (ws : List ℕ). Laid ws p.layout nodes) (sym (filled_same p.layout p.words nodes laid.first_free)) laid; sits = sits } in
    record { shows = subst (Shows p.layout p.words p.seen) (sym same) shows; first_free = laid.first_free ∙ sym (ap (end_of (arena_start p.layout)) same) }
