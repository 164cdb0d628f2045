-- Polls and lookups of one caller, who has a writer to himself, are the machine's.
use Rattle.std.proofs.Common.{◌≡◌, ◌∙◌, ℕ, Bool, true, cond, List, [], ◌++◌, append_assoc, Option, Some, None, Result, Ok, Err, refl, sym, ap, subst}
use Rattle.nsc_model.specs.declared.answer.Request.{Request}
use Rattle.nsc_model.specs.declared.conf.DbConf.{DbConf}
use Rattle.nsc_model.specs.declared.record.Record.{Record}
use Rattle.nsc_model.specs.declared.store.Spent.{Spent as SpentCount}
use Rattle.nsc_model.specs.Answers.{answer_of}
use Rattle.nsc_model.specs.Content.{Content}
use Rattle.nsc_model.specs.Machine.{Kept, Passed, Stopped, cached, hit_or_load, kept_answer, live_entry, loaded, lookup, polled, used_now}
use Rattle.nsc_shelf.specs.declared.entry.Hit.{Hit}
use Rattle.nsc_writer.specs.declared.loaded.Stamp.{Stamp}
use Rattle.nsc_writer.specs.Writer.{Polls, Writer, passed_by}
use Rattle.nsc_turns.specs.declared.entries.HitOrMiss.TheVariants as looked
use Rattle.nsc_turns.specs.Turns.{Completes, CompletesWith, Looks, Stops}

-- ---- polls

pub polls_complete : (r : Result Passed Stopped) (epoch : ℕ) (w w' : Writer) (stamp : Stamp) → Polls r epoch w w' (Ok stamp) → Completes r w w' × (stamp.epoch ≡ epoch)
polls_complete (Ok passed) epoch w w' stamp p = (p.1, ap (λ (s : Stamp). s.epoch) p.0)
polls_complete (Err stop) epoch w w' stamp p = absurd p

pub polls_same : (r : Result Passed Stopped) (epoch : ℕ) (w w' : Writer) (spent : SpentCount) → Polls r epoch w w' (Err spent) → w' ≡ w
polls_same (Ok passed) epoch w w' spent p = absurd p
polls_same (Err stop) epoch w w' spent p = p.1

-- ---- lookups

-- the writer with the counts of hits and misses of another
abbrev pub counted_as : Writer → Writer → Writer
counted_as other w = record w { hits = other.hits; misses = other.misses }

-- the insertion after the poll of a lookup was tried, where the database is cached
abbrev pub KeepsAnswer : DbConf → ℕ → Request → Writer → Writer → Type 0
KeepsAnswer settings now request w w' = w' ≡ counted_as w' (passed_by (kept_answer settings now request w.cache) w)

-- a live entry answers
pub lookup_hits : (settings : DbConf) (now : ℕ) (files : Content) (request : Request) (hit : Hit) (w w' : Writer) (reply : List ℕ) → settings.enabled ≡ true → Looks (live_entry request w.cache.entries) request (looked.Hit hit) w w' reply → CompletesWith (lookup settings now files request w.cache) w w' reply
unfolding lookup
lookup_hits settings now files request hit w w' reply on l =
    let cached_is : cached settings request w.cache ≡ live_entry request w.cache.entries = ap (λ (b : Bool). cond b (live_entry request w.cache.entries) None) on in
    subst (λ (o : Option Kept). CompletesWith (hit_or_load o settings now files request w.cache) w w' reply) (sym cached_is) (by_found (live_entry request w.cache.entries) l) where
      by_found : (o : Option Kept) → Looks o request (looked.Hit hit) w w' reply → CompletesWith (hit_or_load o settings now files request w.cache) w w' reply
      by_found None found = absurd (let e : Some hit ≡ None = found.0 in cc)
      by_found (Some k) found =
          (subst (λ (x : Writer). x ≡ record w { cache = record w.cache { entries = used_now request w.cache.entries }; seen = [] ++ w.seen; hits = x.hits; misses = x.misses }) (sym found.1) refl, sym found.0.1)

-- a poll, and then what became of the answer
pub lookup_completes : (settings : DbConf) (now : ℕ) (files : Content) (request : Request) (w w1 w2 : Writer) (reply : List ℕ) → cached settings request w.cache ≡ None → Completes (polled files w.cache) w w1 → KeepsAnswer settings now request w1 w2 → (answer_of w1.cache.sources request).bytes ≡ reply
    → CompletesWith (lookup settings now files request w.cache) w w2 reply
unfolding lookup
lookup_completes settings now files request w w1 w2 reply none p kept said =
    subst (λ (o : Option Kept). CompletesWith (hit_or_load o settings now files request w.cache) w w2 reply) (sym none) (by_poll (polled files w.cache) p) where
      by_poll : (r : Result Passed Stopped) → Completes r w w1 → CompletesWith (loaded settings now request r) w w2 reply
      by_poll (Ok poll) q =
          let after = kept_answer settings now request poll.cache in (
            kept ∙ ap (λ (x : Writer). counted_as w2 (passed_by (kept_answer settings now request x.cache) x)) q ∙ ap (λ (h : List Record). record w { cache = after.cache; seen = h; hits = w2.hits; misses = w2.misses }) (sym (append_assoc after.adds poll.adds w.seen)),
            sym (ap (λ (x : Writer). (answer_of x.cache.sources request).bytes) q) ∙ said,
          )
      by_poll (Err stop) q = absurd q

pub lookup_stops : (settings : DbConf) (now : ℕ) (files : Content) (request : Request) (count : ℕ) (w w' : Writer) → cached settings request w.cache ≡ None → Stops (polled files w.cache) count w w' → Stops (lookup settings now files request w.cache) count w w'
unfolding lookup
lookup_stops settings now files request count w w' none s =
    subst (λ (o : Option Kept). Stops (hit_or_load o settings now files request w.cache) count w w') (sym none) (by_poll (polled files w.cache) s) where
      by_poll : (r : Result Passed Stopped) → Stops r count w w' → Stops (loaded settings now request r) count w w'
      by_poll (Ok poll) q = absurd q
      by_poll (Err stop) q = q
