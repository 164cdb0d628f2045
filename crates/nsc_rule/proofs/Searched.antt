-- What each load of a search tells, and that what the seat knows then follows the plan.
use Rattle.std.proofs.Common.{◌≡◌, ◌≢◌, ◌∙◌, ℕ, ◌+◌, ◌%◌, ◌<◌, ◌≤◌, ◌⊎◌, not, Bool, true, false, true≢false, cond, eqb, eq-eqb, inl, inr, ⊎_elim, List, length, slice_index, Some, refl, sym, ap, subst, arith, Option}
use Rattle.std.proofs.lemmas.Bool.{cases_lt}
use Rattle.std.proofs.lemmas.Option.{none-some}
use Rattle.nsc_base.specs.Nodes.{words_for}
use Rattle.nsc_words.specs.declared.layout.Layout.{Layout}
use Rattle.nsc_words.specs.declared.node.Placed.{Placed}
use Rattle.nsc_words.specs.Hash.{hash_of}
use Rattle.nsc_words.specs.Laid.{Among, Leads, Stands, bucket_in, end_of}
use Rattle.nsc_words.specs.Packing.{shape_word}
use Rattle.nsc_words.specs.Layout.{arena_start}
use Rattle.nsc_arena.specs.ReadBack.{placed_in}
use Rattle.nsc_arena.proofs.Rows.{same_place, within}
use Rattle.nsc_model.specs.declared.answer.Request.{Request}
use Rattle.nsc_model.specs.declared.record.Record.{Record}
use Rattle.nsc_model.specs.Entry.{Entry}
use Rattle.nsc_model.specs.History.{loads, IsLive, IsPrefix}
use Rattle.nsc_model.specs.Kinds.{type_number}
use Rattle.nsc_model.proofs.Beginnings.{prefix_all, prefix_none}
use Rattle.nsc_rule.specs.declared.view.Plan.{Plan}
use Rattle.atomic_table.specs.Seated.{TableId}
use Rattle.nsc_rule.specs.declared.view.Search.{Search}
use Rattle.nsc_rule.specs.declared.view.View.{View}
use Rattle.nsc_rule.specs.Entries.{entry_of, request_bucket, request_in}
use Rattle.nsc_rule.specs.Plans.{Shows, Sound, cycle_of, filled}
use Rattle.nsc_rule.specs.Seats.{Fits, Follows, Reaches, retired_by, reading, seen_by, searching_by}
use Rattle.nsc_rule.specs.Searches.{BeginTells, BucketTells, FixedTells, IsFixed, IsSteady, IsWithin, Lands, LastTells, MayPass, NextTells, StateTells, begun_search, entry_at}
use Rattle.nsc_rule.proofs.Filled.{filled_at}
use Rattle.nsc_rule.proofs.Reached.{IsOnChain, bucket_is, entry_some, landed, stands_in, within_is}

-- what holds of the view of a pass, and of the plan's layout, holds of what is known to be these
pub along : (T : Layout → View → Type 0) (layout : Layout) (v : View) (p : Plan) → v ≡ reading (seen_by v) (retired_by v) (searching_by v) → p.layout ≡ layout → T p.layout (reading (seen_by v) (retired_by v) (searching_by v)) → T layout v
along T layout v p is same t = subst (λ (l : Layout). T l v) same (subst (T p.layout) (sym is) t)

-- where the CYCLE of a search is still that of the plan, and even, the words show the nodes
shown_at : (p : Plan) (first : ℕ) → Sound p → first ≡ cycle_of p → first % 2 ≡ 0 → Shows p.layout p.words p.seen p.nodes
shown_at p first sound same even = sound.shows (sym (ap (λ (n : ℕ). n % 2) same) ∙ even)

-- ---- a search begins

pub begins : (seat : ℕ) (request : Request) (seen : List Record) (retired : Option TableId) (searching : Search) (p : Plan) → Sound p → Follows p (reading seen retired searching) → (w : View) × Fits p seat w × BeginTells p.layout request (reading seen retired searching) (cycle_of p) w
begins seat request seen retired searching p sound was =
    let w : Search = begun_search p.layout request p.seen (cycle_of p) searching in (
      reading p.seen retired w,
      record {
        seen = prefix_all p.seen;
        told = prefix_none p.seen;
        over = λ newer is. absurd (none-some newer is);
        began = prefix_all p.seen;
        first = omega arith;
        known = omega arith;
        retired = λ newer is. ((was.retired newer is).0, refl);
        reaches = λ same even. record {
          at = λ e on. absurd cc;
          bound = λ q among usable is low. let shows = shown_at p (cycle_of p) sound refl even in let at = within (arena_start p.layout) p.nodes q shows.laid.row among in let room = shows.laid.room in omega arith;
        };
      },
      record { view = refl; legal = sound.legal; fit = sound.fit; before = was.seen; known = was.known; most = sound.cycle; left = λ newer is. sound.left newer (was.retired newer is).0 },
    )

-- ---- a search goes on to where a word of a chain leads

abbrev turned : List ℕ → ℕ → ℕ → Search → Search
turned words found cycle searching = record searching { steps = searching.steps + 1; known = cycle; place = found; on = entry_at words found; gone = false }

turns : (seat : ℕ) (seen : List Record) (retired : Option TableId) (searching : Search) (p : Plan) (found : ℕ) → Sound p → Follows p (reading seen retired searching)
    → (searching.first ≡ cycle_of p → searching.first % 2 ≡ 0 → IsOnChain p (request_bucket p.layout searching.request) found)
    → (searching.first ≡ cycle_of p → searching.first % 2 ≡ 0 → (q : Placed) → Among q p.nodes → q.usable ≡ true → request_in q ≡ searching.request → q.node.number < loads searching.began → q.place ≤ found)
    → Follows p (reading seen retired (turned p.words found (cycle_of p) searching)) × Lands p.layout searching (turned p.words found (cycle_of p) searching) found
turns seat seen retired searching p found sound was chain bound =
    let first = was.first in
    let known = was.known in (
      record {
        seen = was.seen;
        told = prefix_none p.seen;
        over = λ newer is. absurd (none-some newer is);
        began = was.began;
        first = omega arith;
        known = omega arith;
        retired = was.retired;
        reaches = λ same even. record {
          at = λ e on. let l = landed p (request_bucket p.layout searching.request) found e (shown_at p searching.first sound same even) (chain same even) on in (l.node, l.among, l.place, l.is, l.bucket_of_it, λ gone. absurd (true≢false (sym gone)));
          bound = bound same even;
        };
      },
      record {
        searching = refl;
        known = known;
        on = λ other. (entry_of (placed_in p.words found), entry_some p.words found other);
        within = λ steady e on other.
            let same : searching.first ≡ cycle_of p = sym steady.0 in
            let shows = shown_at p searching.first sound same steady.1 in
            let l = landed p (request_bucket p.layout searching.request) found e shows (chain same steady.1) on in
            subst (λ (f : Entry). IsWithin p.layout found f) l.is (subst (λ (n : ℕ). IsWithin p.layout n (entry_of l.node)) l.place (within_is p l.node shows l.among));
      },
    )

-- what a relation of chains says of the word itself
leads_on : (p : Plan) (bucket below to : ℕ) → Leads p.layout p.nodes bucket below to → IsOnChain p bucket to
leads_on p bucket below to leads = ⊎_elim (λ (z : to ≡ 0). inl z) (λ (w : (q : Placed) × Among q p.nodes × (q.place ≡ to) × (to < below) × (bucket_in p.layout q ≡ bucket)). inr (w.0, w.1, w.2, w.4)) leads.known

-- a bucket's word
bucket_leads : (p : Plan) (request : Request) → Sound p → Shows p.layout p.words p.seen p.nodes → Leads p.layout p.nodes (request_bucket p.layout request) (end_of (arena_start p.layout) p.nodes) (slice_index p.words (request_bucket p.layout request))
bucket_leads p request sound shows =
    let hash : ℕ = hash_of (type_number request.kind) request.key in
    let some = sound.sizes.some_bucket in
    let low : hash % p.layout.buckets < p.layout.buckets = bounded hash p.layout.buckets some in
    let other : request_bucket p.layout request ≢ 3 = omega arith in
    subst (λ (t : ℕ). Leads p.layout p.nodes (request_bucket p.layout request) (end_of (arena_start p.layout) p.nodes) t) (filled_at p.layout p.words p.nodes (request_bucket p.layout request) other) (shows.laid.buckets (hash % p.layout.buckets) low) where
      bounded : (h n : ℕ) → 1 ≤ n → h % n < n
      bounded h n some = omega arith

pub buckets : (seat : ℕ) (seen : List Record) (retired : Option TableId) (searching : Search) (p : Plan) (at : ℕ) → at ≡ request_bucket p.layout searching.request → Sound p → Follows p (reading seen retired searching)
    → (w : View) × Fits p seat w × BucketTells p.layout (reading seen retired searching) (slice_index p.words at) w
buckets seat seen retired searching p at is sound was =
    let found : ℕ = slice_index p.words at in
    let leads : searching.first ≡ cycle_of p → searching.first % 2 ≡ 0 → Leads p.layout p.nodes (request_bucket p.layout searching.request) (end_of (arena_start p.layout) p.nodes) found = λ same even.
    subst (λ (i : ℕ). Leads p.layout p.nodes (request_bucket p.layout searching.request) (end_of (arena_start p.layout) p.nodes) (slice_index p.words i)) (sym is) (bucket_leads p searching.request sound (shown_at p searching.first sound same even)) in
    let t = turns seat seen retired searching p found sound was
    (λ same even. leads_on p (request_bucket p.layout searching.request) (end_of (arena_start p.layout) p.nodes) found (leads same even))
    (λ same even q among usable of low.
    let shows = shown_at p searching.first sound same even in
    let at_q = within (arena_start p.layout) p.nodes q shows.laid.row among in
    let own : bucket_in p.layout q ≡ request_bucket p.layout searching.request = sym (bucket_is p q shows among) ∙ ap (request_bucket p.layout) of in
    (leads same even).none_between q among usable own (omega arith)) in
    (reading seen retired (turned p.words found (cycle_of p) searching), t.0, record { view = refl; lands = t.1 })

-- ---- a search passes a node

-- where it stands in a plan whose words show the nodes
record Standing (p : Plan) (searching : Search) (e : Entry) : Type 0 where
  node : Placed
  among : Among node p.nodes
  place : node.place ≡ searching.place
  is : entry_of node ≡ e
  bucket : bucket_in p.layout node ≡ request_bucket p.layout searching.request
  gone : searching.gone ≡ true → node.usable ≡ false

standing : (p : Plan) (searching : Search) (e : Entry) → Shows p.layout p.words p.seen p.nodes → Reaches p searching → searching.on ≡ Some e → Standing p searching e
standing p searching e shows reaches on =
    let q = reaches.at e on in
    record { node = q.0; among = q.1; place = q.2; is = q.3; bucket = sym (bucket_is p q.0 shows q.1) ∙ ap (λ (f : Entry). request_bucket p.layout f.request) q.3 ∙ q.4; gone = q.5 }

-- its NEXT
next_leads : (p : Plan) (searching : Search) (e : Entry) (at : ℕ) → at ≡ searching.place + 7 → Shows p.layout p.words p.seen p.nodes → Standing p searching e → Leads p.layout p.nodes (request_bucket p.layout searching.request) searching.place (slice_index p.words at)
next_leads p searching e at is shows s =
    let here = within (arena_start p.layout) p.nodes s.node shows.laid.row s.among in
    let place = s.place in
    let other : at ≢ 3 = omega arith in
    let same : s.node.place + 7 ≡ at = omega arith in
    let leads : Leads p.layout p.nodes (bucket_in p.layout s.node) s.node.place (slice_index (filled p.layout p.words p.nodes) at) = subst (λ (i : ℕ). Leads p.layout p.nodes (bucket_in p.layout s.node) s.node.place (slice_index (filled p.layout p.words p.nodes) i)) same (shows.laid.nexts s.node s.among) in
    let word : Leads p.layout p.nodes (bucket_in p.layout s.node) s.node.place (slice_index p.words at) = subst (λ (t : ℕ). Leads p.layout p.nodes (bucket_in p.layout s.node) s.node.place t) (filled_at p.layout p.words p.nodes at other) leads in
    subst (λ (b : ℕ). Leads p.layout p.nodes b searching.place (slice_index p.words at)) s.bucket (subst (λ (n : ℕ). Leads p.layout p.nodes (bucket_in p.layout s.node) n (slice_index p.words at)) place word)

-- no usable node of the request stands where it passes
not_here : (p : Plan) (searching : Search) (e : Entry) (q : Placed) → Shows p.layout p.words p.seen p.nodes → Standing p searching e → (e.request ≢ searching.request) ⊎ (searching.gone ≡ true) → Among q p.nodes → q.usable ≡ true → request_in q ≡ searching.request → q.place ≢ searching.place
not_here p searching e q shows s passed among usable of same =
    let one : q ≡ s.node = same_place (arena_start p.layout) p.nodes q s.node shows.laid.row among s.among (same ∙ sym s.place) in
    ⊎_elim
    (λ (other : e.request ≢ searching.request). other (ap (λ (f : Entry). f.request) (sym s.is) ∙ ap request_in (sym one) ∙ of))
    (λ (gone : searching.gone ≡ true). true≢false (sym usable ∙ ap (λ (r : Placed). r.usable) one ∙ s.gone gone))
    passed

-- the search is steady where its first CYCLE is still the plan's
steady_at : (p : Plan) (seen : List Record) (retired : Option TableId) (searching : Search) → Follows p (reading seen retired searching) → searching.first ≡ cycle_of p → searching.first % 2 ≡ 0 → IsSteady searching
steady_at p seen retired searching was same even = let first = was.first in let known = was.known in (omega arith, even)

pub nexts : (seat : ℕ) (seen : List Record) (retired : Option TableId) (searching : Search) (p : Plan) (at : ℕ) → at ≡ searching.place + 7 → MayPass searching → Sound p → Follows p (reading seen retired searching)
    → (w : View) × Fits p seat w × NextTells p.layout (reading seen retired searching) (slice_index p.words at) w
nexts seat seen retired searching p at is pass sound was =
    let found : ℕ = slice_index p.words at in
    let e : Entry = pass.0 in
    let stands : searching.first ≡ cycle_of p → searching.first % 2 ≡ 0 → Standing p searching e = λ same even. standing p searching e (shown_at p searching.first sound same even) (was.reaches same even) pass.1 in
    let leads : searching.first ≡ cycle_of p → searching.first % 2 ≡ 0 → Leads p.layout p.nodes (request_bucket p.layout searching.request) searching.place found = λ same even. next_leads p searching e at is (shown_at p searching.first sound same even) (stands same even) in
    let t = turns seat seen retired searching p found sound was
    (λ same even. leads_on p (request_bucket p.layout searching.request) searching.place found (leads same even))
    (λ same even q among usable of low.
    let shows = shown_at p searching.first sound same even in
    let most : q.place ≤ searching.place = (was.reaches same even).bound q among usable of low in
    let apart : q.place ≢ searching.place = not_here p searching e q shows (stands same even) (pass.2 (steady_at p seen retired searching was same even)) among usable of in
    let own : bucket_in p.layout q ≡ request_bucket p.layout searching.request = sym (bucket_is p q shows among) ∙ ap (request_bucket p.layout) of in
    (leads same even).none_between q among usable own (omega arith)) in (
      reading seen retired (turned p.words found (cycle_of p) searching),
      t.0,
      record {
        view = refl;
        lands = t.1;
        lower = λ steady.
            let same : searching.first ≡ cycle_of p = sym steady.0 in
            let shows = shown_at p searching.first sound same steady.1 in
            let s = stands same steady.1 in
            let here = within (arena_start p.layout) p.nodes s.node shows.laid.row s.among in
            let place = s.place in
            ⊎_elim (λ (z : found ≡ 0). omega arith) (λ (w : (q : Placed) × Among q p.nodes × (q.place ≡ found) × (found < searching.place) × (bucket_in p.layout q ≡ request_bucket p.layout searching.request)). w.3) (leads same steady.1).known;
      },
    )

-- ---- a word of the node

-- what a search knows stays known, with the present CYCLE, and what it has found of the node
stays : (p : Plan) (seen seen' : List Record) (retired : Option TableId) (gone : Bool) (last : ℕ) (searching : Search) → IsPrefix seen' p.seen → ((newer : TableId) → retired ≡ Some newer → seen' ≡ p.seen) → Follows p (reading seen retired searching)
    → (searching.first ≡ cycle_of p → searching.first % 2 ≡ 0 → (q : Placed) → Among q p.nodes → q.place ≡ searching.place → (searching.gone ≡ true → q.usable ≡ false) → gone ≡ true → q.usable ≡ false)
    → Follows p (reading seen' retired (record searching { steps = searching.steps + 1; known = cycle_of p; last = last; gone = gone }))
stays p seen seen' retired gone last searching more over was ended =
    let first = was.first in
    let known = was.known in
    record {
      seen = more;
      told = prefix_none p.seen;
      over = λ newer is. absurd (none-some newer is);
      began = was.began;
      first = omega arith;
      known = omega arith;
      retired = λ newer is. ((was.retired newer is).0, over newer is);
      reaches = λ same even.
          let r = was.reaches same even in
          record { at = λ e on. let q = r.at e on in (q.0, q.1, q.2, q.3, q.4, ended same even q.0 q.1 q.2 q.5); bound = r.bound };
    }

fixed_in : (words : List ℕ) (q : Placed) (at index : ℕ) → Stands words q → at ≡ q.place + index → type_number (entry_of q).request.kind ≡ q.node.kind → IsFixed (entry_of q) index (slice_index words at)
fixed_in words q at index stands is kind =
    let h = stands.holds in
    let keys : ℕ = words_for (length q.node.key) in
    let at_index : (k : ℕ) → index ≡ k → at ≡ q.place + k = λ k e. is ∙ ap (λ (n : ℕ). q.place + n) e in
    let word : (k : ℕ) → index ≡ k → slice_index words at ≡ slice_index words (q.place + k) = λ k e. ap (slice_index words) (at_index k e) in
    record {
      number = λ e. word 0 e ∙ h.number;
      shape = λ e. word 1 e ∙ h.shape ∙ ap (λ (k : ℕ). shape_word k (length q.node.key)) (sym kind);
      size = λ e. word 2 e ∙ h.size;
      version = λ e. word 3 e ∙ h.version;
      timeout = λ e. word 4 e ∙ h.timeout;
      key = λ i more e. let place : at ≡ q.place + 8 + i = omega arith in ap (slice_index words) place ∙ h.key i more;
      reply = λ i more e. let place : at ≡ q.place + 8 + keys + i = omega arith in ap (slice_index words) place ∙ h.reply i more;
    }

pub fixes : (seat : ℕ) (seen : List Record) (retired : Option TableId) (searching : Search) (p : Plan) (at : ℕ) → Sound p → Follows p (reading seen retired searching) → (w : View) × Fits p seat w × FixedTells at (reading seen retired searching) (slice_index p.words at) w
fixes seat seen retired searching p at sound was =
    let known = was.known in (
      reading seen retired (record searching { steps = searching.steps + 1; known = cycle_of p }),
      stays p seen seen retired searching.gone searching.last searching was.seen (λ newer is. (was.retired newer is).1) was (λ same even q among place known_gone. known_gone),
      record {
        view = refl;
        known = known;
        fixed = λ steady e index on is.
            let same : searching.first ≡ cycle_of p = sym steady.0 in
            let shows = shown_at p searching.first sound same steady.1 in
            let q = (was.reaches same steady.1).at e on in
            let here : at ≡ q.0.place + index = is ∙ ap (λ (n : ℕ). n + index) (sym q.2) in
            subst (λ (f : Entry). IsFixed f index (slice_index p.words at)) q.3 (fixed_in p.words q.0 at index (stands_in p q.0 shows q.1) here (shows.sits.kinds q.0 q.1));
      },
    )

-- a node's STATE
state_is : (usable : Bool) (word : ℕ) → ◌≡◌ {A = ℕ} word (cond usable 1 0) → (word ≡ 1 → usable ≡ true) × (not (eqb word 1) ≡ true → usable ≡ false)
state_is true word is = (λ one. refl, λ off. absurd (true≢false (sym off ∙ ap not (eq-eqb word 1 is))))
state_is false word is = (λ one. absurd (omega arith), λ off. refl)

pub states : (seat : ℕ) (seen : List Record) (retired : Option TableId) (searching : Search) (p : Plan) (at : ℕ) → at ≡ searching.place + 6 → Sound p → Follows p (reading seen retired searching) → (w : View) × Fits p seat w × StateTells (reading seen retired searching) (slice_index p.words at) w
states seat seen retired searching p at is sound was =
    let found : ℕ = slice_index p.words at in
    let known = was.known in
    let state : searching.first ≡ cycle_of p → searching.first % 2 ≡ 0 → (q : Placed) → Among q p.nodes → q.place ≡ searching.place → (found ≡ 1 → q.usable ≡ true) × (not (eqb found 1) ≡ true → q.usable ≡ false) = λ same even q among place.
    let shows = shown_at p searching.first sound same even in
    let here : at ≡ q.place + 6 = is ∙ ap (λ (n : ℕ). n + 6) (sym place) in
    state_is q.usable found (ap (slice_index p.words) here ∙ (stands_in p q shows among).holds.state) in (
      reading p.seen retired (record searching { steps = searching.steps + 1; known = cycle_of p; gone = not (eqb found 1) }),
      stays p seen p.seen retired (not (eqb found 1)) searching.last searching (prefix_all p.seen) (λ newer over. refl) was (λ same even q among place known_gone. (state same even q among place).1),
      record {
        view = refl;
        legal = sound.legal;
        fit = sound.fit;
        before = was.seen;
        known = known;
        live = λ steady e on one.
            let same : searching.first ≡ cycle_of p = sym steady.0 in
            let shows = shown_at p searching.first sound same steady.1 in
            let q = (was.reaches same steady.1).at e on in
            subst (IsLive p.seen) q.3 (shows.sits.live q.0 q.1 ((state same steady.1 q.0 q.1 q.2).0 one));
      },
    )

-- ---- a search ends

pub ends : (seat : ℕ) (seen : List Record) (retired : Option TableId) (searching : Search) (p : Plan) → Sound p → Follows p (reading seen retired searching) → (w : View) × Fits p seat w × LastTells (reading seen retired searching) (cycle_of p) w
ends seat seen retired searching p sound was =
    let first = was.first in
    let known = was.known in (
      reading p.seen retired (record searching { steps = searching.steps + 1; known = cycle_of p; last = cycle_of p }),
      stays p seen p.seen retired searching.gone (cycle_of p) searching (prefix_all p.seen) (λ newer over. refl) was (λ same even q among place known_gone. known_gone),
      record {
        view = refl;
        legal = sound.legal;
        fit = sound.fit;
        before = was.seen;
        first = first;
        known = known;
        most = sound.cycle;
        none_older = λ steady bottom e live of.
            let same : searching.first ≡ cycle_of p = sym steady.0 in
            let shows = shown_at p searching.first sound same steady.1 in
            let q = shows.sits.found e live in
            let at = within (arena_start p.layout) p.nodes q.0 shows.laid.row q.1 in
            let number : q.0.node.number ≡ e.number = ap (λ (f : Entry). f.number) q.3 in
            ⊎_elim
            (λ (older : e.number < loads searching.began).
            let high : q.0.place ≤ searching.place = (was.reaches same steady.1).bound q.0 q.1 q.2 (ap (λ (f : Entry). f.request) q.3 ∙ of) (omega arith) in
            absurd (omega arith))
            (λ (newer : loads searching.began ≤ e.number). newer)
            (cases_lt e.number (loads searching.began));
      },
    )
