-- What a source book is, and what its calls give.
use Rattle.std.specs.Prelude.{◌≡◌, ℕ, List, Option, Result, Ok, Err, Some, IfSome}
use Rattle.atomic_table.specs.Seated.{TableId}
use Rattle.nsc_model.specs.declared.kind.Db.{Db}
use Rattle.nsc_model.specs.declared.record.Record.{Record}
use Rattle.nsc_model.specs.declared.store.Spent.{Spent}
use Rattle.nsc_model.specs.Content.{Content}
use Rattle.nsc_model.specs.Files.{part_of}
use Rattle.nsc_model.specs.History.{version_in}
use Rattle.nsc_model.specs.Machine.{polled}
use Rattle.nsc_writer.specs.declared.loaded.Stamp.{Stamp}
use Rattle.nsc_writer.specs.Writer.{Writer, Polls}

-- the database, its first table and the one that its book has come to, what was seen of its history, the newest content then, and the
-- files that its file set holds, where that tells them
pub record SourceBook : Type 0 where
  pub db : Db
  pub table : TableId
  pub present : TableId
  pub seen : List Record
  pub newest : Content
  pub held : Option Content

-- a content is the version of this number in a history, and has no other files than those of a database
abbrev pub IsVersionOf : Db → List Record → ℕ → Content → Type 0
IsVersionOf db seen version content = (version_in seen version ≡ Some content) × (content ≡ part_of db content)

-- a content that was read, and the number of the version that it was found equal to
pub record Fetched : Type 0 where
  pub content : Content
  pub version : Option ℕ

-- what was fetched may be entered in a book: it has no other files than those of the book's database, and is the version that it was
-- found equal to
pub record FitsBook (book : SourceBook) (fetched : Fetched) : Type 0 where
  pub only : fetched.content ≡ part_of book.db fetched.content
  pub named : IfSome fetched.version (λ n. version_in book.seen n ≡ Some fetched.content)

-- a content that was polled, with its stamp
pub record Polled : Type 0 where
  pub content : Content
  pub stamp : Stamp

-- a poll of what was fetched: the writer polls it, and it is the newest content of the book; or nothing changed
abbrev pub PollsBook : Fetched → ℕ → SourceBook → SourceBook → Writer → Writer → Result Polled Spent → Type 0
PollsBook fetched epoch before after w w' (Ok p) = Polls (polled fetched.content w.cache) epoch w w' (Ok p.stamp) × (p.content ≡ fetched.content) × (after ≡ record before { seen = w'.seen; newest = fetched.content })
PollsBook fetched epoch before after w w' (Err spent) = Polls (polled fetched.content w.cache) epoch w w' (Err spent) × (after ≡ before)
