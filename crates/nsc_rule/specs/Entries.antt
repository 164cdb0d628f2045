-- The entries that stand in words, by the nodes that the words hold.
use Rattle.std.specs.Prelude.{ℕ, if◌then◌else◌, List, [], ◌∷◌, ◌++◌, Option, Some, None}
use Rattle.nsc_words.specs.declared.layout.Layout.{Layout}
use Rattle.nsc_words.specs.declared.node.Placed.{Placed}
use Rattle.nsc_words.specs.Layout.{bucket_of}
use Rattle.nsc_model.specs.declared.answer.Request.{Request}
use Rattle.nsc_model.specs.declared.kind.Kind.{Kind}
use Rattle.nsc_model.specs.declared.kind.Kind.TheVariants.{PwName}
use Rattle.nsc_model.specs.Entry.{Entry}
use Rattle.nsc_model.specs.Kinds.{kind_numbered, type_number}
use Rattle.nsc_model.specs.Machine.{Kept}

-- the kind of a number; any, where it is that of none
abbrev pub kind_or : Option Kind → Kind
kind_or None = PwName
kind_or (Some kind) = kind

abbrev pub kind_of : ℕ → Kind
kind_of number = kind_or (kind_numbered number)

abbrev pub request_in : Placed → Request
request_in p = record { kind = kind_of p.node.kind; key = p.node.key }

abbrev pub kept_in : Placed → Kept
kept_in p = record {
  entry = record { number = p.node.number; request = request_in p; version = p.node.version; answer = record { bytes = p.node.reply; not_found = p.node.not_found }; timeout = p.node.timeout };
  reloads = p.node.reloads;
}

-- the usable nodes, from the oldest on, of a list that begins with the newest one
abbrev pub entries_in : List Placed → List Kept
entries_in [] = []
entries_in (p ∷ older) = if p.usable then entries_in older ++ kept_in p ∷ [] else entries_in older

-- the entry that a node holds
abbrev pub entry_of : Placed → Entry
entry_of p = (kept_in p).entry

-- the bucket of a request
abbrev pub request_bucket : Layout → Request → ℕ
request_bucket layout request = bucket_of layout (type_number request.kind) request.key
