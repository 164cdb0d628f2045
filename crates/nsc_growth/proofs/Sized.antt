-- The layouts that a database's table may have: what is known of them, and that they go on by growth.
use Rattle.std.proofs.Common.{◌≡◌, ℕ, ◌+◌, ◌-◌, ◌*◌, ◌^◌, ◌<◌, ◌≤◌, ◌⊎◌, inl, inr, Some, None, refl, sym, ap, subst, ◌∙◌, arith}
use Rattle.std.proofs.lemmas.Bool.{cases_lt}
use Rattle.std.proofs.Math.Nat.{mul-one, mul_right_comm}
use Rattle.nsc_model.specs.declared.conf.DbConf.{DbConf}
use Rattle.nsc_model.specs.Growth.{IsArena, MayGrow, arena_after}
use Rattle.nsc_model.specs.Machine.{room_of}
use Rattle.nsc_model.specs.Sizes.{SizeFits}
use Rattle.nsc_words.specs.declared.layout.Layout.{Layout}
use Rattle.nsc_words.specs.Layout.{IsLayout, table_words}
use Rattle.nsc_growth.specs.Doubled.{Fits, IsNext, doubled}
use Rattle.nsc_growth.specs.Sized.{IsSized, first_layout}
use Rattle.nsc_growth.proofs.Doublings.{doubled_again, product_less}

-- the first table's
pub sized_first : (settings : DbConf) → IsSized settings (first_layout settings)
sized_first settings = record {
  doublings = 0;
  grown = inl refl;
  is = λ i. record { buckets = sym (mul-one settings.size) i; arena = sym (mul-one (room_of settings)) i };
}

-- entries may take `layout.arena` words of the whole table
pub sized_arena : (settings : DbConf) (layout : Layout) → IsSized settings layout → IsArena settings (table_words layout) layout.arena
sized_arena settings layout sized = record { doublings = sized.doublings; grown = sized.grown; all = ap table_words sized.is; is = ap (λ (l : Layout). l.arena) sized.is }

-- they are no fewer than in the first table
pub sized_low : (settings : DbConf) (layout : Layout) → IsSized settings layout → room_of settings ≤ layout.arena
sized_low settings layout sized =
    let arena : layout.arena ≡ room_of settings * 2 ^ sized.doublings = ap (λ (l : Layout). l.arena) sized.is in
    let more = product_less (room_of settings) 0 sized.doublings (omega arith) in
    omega (arith, mul-one (room_of settings))

may_grow : (settings : DbConf) (d : ℕ) → Fits settings.max_size (doubled d (first_layout settings)) → MayGrow settings d
may_grow settings d fits = record { bytes = fits.bytes; words = fits.words }

grown_fits : (settings : DbConf) (d : ℕ) → MayGrow settings d → Fits settings.max_size (doubled d (first_layout settings))
grown_fits settings d may = record { bytes = may.bytes; words = may.words }

-- doubled again, it is the first one's, doubled more often
doubled_on : (settings : DbConf) (layout : Layout) (d k : ℕ) → layout ≡ doubled d (first_layout settings) → doubled k layout ≡ doubled (d + k) (first_layout settings)
doubled_on settings layout d k is = ap (doubled k) is ∙ doubled_again d k (first_layout settings)

-- the next one that growth gives up to max-db-size
pub sized_next : (settings : DbConf) (layout next : Layout) (wanted : ℕ) → IsSized settings layout → IsNext settings.max_size layout wanted (Some next) → IsSized settings next
sized_next settings layout next wanted sized found =
    let d : ℕ = sized.doublings + (found.doublings + 1) in
    let is : next ≡ doubled d (first_layout settings) = found.is ∙ doubled_on settings layout sized.doublings (found.doublings + 1) sized.is in
    record { doublings = d; grown = inr (may_grow settings d (subst (Fits settings.max_size) is found.fits)); is = is }

few_buckets : (settings : DbConf) (d : ℕ) → SizeFits settings → (d ≡ 0) ⊎ MayGrow settings d → settings.size * 2 ^ d ≤ 65536
few_buckets settings d fit (inl none) = rw none (omega (arith, fit.fit, mul-one settings.size))
few_buckets settings d fit (inr may) = omega (arith, may.words, mul_right_comm settings.size 128 (2 ^ d))

-- it has sizes that a table may have
pub sized_layout : (settings : DbConf) (layout : Layout) → SizeFits settings → IsSized settings layout → IsLayout layout
sized_layout settings layout fit sized =
    let buckets : layout.buckets ≡ settings.size * 2 ^ sized.doublings = ap (λ (l : Layout). l.buckets) sized.is in
    let arena : layout.arena ≡ settings.size * 128 * 2 ^ sized.doublings = ap (λ (l : Layout). l.arena) sized.is in
    let few = few_buckets settings sized.doublings fit sized.grown in
    let some = product_less settings.size 0 sized.doublings (omega arith) in
    let first = mul-one settings.size in
    let words = mul_right_comm settings.size 128 (2 ^ sized.doublings) in
    record { some_bucket = omega arith; buckets = omega arith; some_room = omega arith; room = omega arith }

larger_short : (settings : DbConf) (layout : Layout) (wanted : ℕ) (sized : IsSized settings layout) → IsNext settings.max_size layout wanted None → (k : ℕ) → MayGrow settings (sized.doublings + (k + 1)) → arena_after settings (sized.doublings + (k + 1)) < wanted
larger_short settings layout wanted sized none k may =
    let is : doubled (k + 1) layout ≡ doubled (sized.doublings + (k + 1)) (first_layout settings) = doubled_on settings layout sized.doublings (k + 1) sized.is in
    subst (λ (l : Layout). l.arena < wanted) is (none k (subst (Fits settings.max_size) (sym is) (grown_fits settings (sized.doublings + (k + 1)) may)))

-- where it has no room for `wanted` words, and growth finds none that has, no table that the first one may become has room for them
pub sized_largest : (settings : DbConf) (layout : Layout) (wanted : ℕ) → IsSized settings layout → layout.arena < wanted → IsNext settings.max_size layout wanted None → (d : ℕ) → MayGrow settings d → arena_after settings d < wanted
sized_largest settings layout wanted sized short none d may = by_order (cases_lt sized.doublings d) where
  by_order : (sized.doublings < d) ⊎ (d ≤ sized.doublings) → arena_after settings d < wanted
  by_order (inl more) =
      let is : sized.doublings + (d - sized.doublings - 1 + 1) ≡ d = omega arith in
      subst (λ e. arena_after settings e < wanted) is (larger_short settings layout wanted sized none (d - sized.doublings - 1) (subst (MayGrow settings) (sym is) may))
  by_order (inr fewer) =
      let arena : layout.arena ≡ room_of settings * 2 ^ sized.doublings = ap (λ (l : Layout). l.arena) sized.is in
      let less = product_less (room_of settings) d sized.doublings fewer in
      omega arith
