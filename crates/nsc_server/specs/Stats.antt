-- The text of statistics.
use Rattle.std.specs.Prelude.{ℕ, Bool, if◌then◌else◌, List, [], ◌∷◌, ◌++◌, codes, decimal}
use Rattle.nsc_model.specs.declared.kind.Db.{Db}
use Rattle.nsc_model.specs.declared.kind.Db.TheVariants as db
use Rattle.nsc_model.specs.declared.store.Stats.{Stats}
use Rattle.nsc_model.specs.Kinds.{name_of}

-- a line: what is counted, and the count in decimal
abbrev pub line : List ℕ → ℕ → List ℕ
line what count = what ++ decimal count ++ 10 ∷ []

-- the name of a database, and whether it is cached
abbrev pub heading_text : Db → Bool → List ℕ
heading_text of enabled = name_of of ++ codes " cache:" ++ 10 ∷ [] ++ codes "enabled " ++ (if enabled then codes "yes" else codes "no") ++ 10 ∷ []

-- how lookups went, and how many entries are live
abbrev pub counts_text : Stats → List ℕ
counts_text stats =
    line (codes "hits ") stats.hits ++ line (codes "negative hits ") stats.negative_hits ++ line (codes "misses ") stats.misses
    ++ line (codes "negative misses ") stats.negative_misses ++ line (codes "entries ") stats.entries

-- how many words are used, and how many there are
abbrev pub words_text : Stats → List ℕ
words_text stats = codes "used words " ++ decimal stats.used ++ codes " of " ++ decimal stats.arena ++ 10 ∷ []

-- what happened to the database, and one empty line
abbrev pub ending_text : Stats → List ℕ
ending_text stats =
    line (codes "invalidations ") stats.invalidations ++ line (codes "compactions ") stats.compactions ++ line (codes "not added ") stats.addfailed ++ 10 ∷ []

-- the lines of a database
abbrev pub database_text : Db → Stats → List ℕ
database_text of stats = heading_text of stats.enabled ++ counts_text stats ++ words_text stats ++ ending_text stats

-- the text of all four, in the order passwd, group, hosts and services
abbrev pub stats_text : List Stats → List ℕ
stats_text (passwd ∷ group ∷ hosts ∷ services ∷ []) =
    database_text db.Passwd passwd ++ database_text db.Group group ++ database_text db.Hosts hosts ++ database_text db.Services services
stats_text _ = []
