-- How a database's tables are laid out.
use Rattle.std.specs.Prelude.{◌≡◌, ℕ, ◌⊎◌}
use Rattle.nsc_model.specs.declared.conf.DbConf.{DbConf}
use Rattle.nsc_model.specs.Growth.{MayGrow}
use Rattle.nsc_model.specs.Machine.{room_of}
use Rattle.nsc_words.specs.declared.layout.Layout.{Layout}
use Rattle.nsc_growth.specs.Doubled.{doubled}

-- the first table has a bucket for each of the suggested size, and 128 words
abbrev pub first_layout : DbConf → Layout
first_layout settings = record { buckets = settings.size; arena = room_of settings }

-- the layout of the first table, or of one that it may become
pub record IsSized (settings : DbConf) (layout : Layout) : Type 0 where
  pub doublings : ℕ
  pub grown : (doublings ≡ 0) ⊎ MayGrow settings doublings
  pub is : layout ≡ doubled doublings (first_layout settings)
