use Rattle.std.proofs.Common.{◌∙◌, ap}
use Rattle.nsc_sourcebook.specs.Book.{SourceBook}
use Rattle.nsc_sourcebook.proofs.Newest.{same_is}
use Rattle.nsc_sourcebook.proofs.book.SourceBook.has_newest.Goals as goal

pub returns : goal.returns
returns g c =
    same_is c.is_same.result c.args.content.now c.deref-2.result.now c.args.self.now.newest c.is_same.ensures
    (c.deref-2.ensures ∙ c.content.ensures ∙ ap g.A.Answerer.prepared_from c.deref.ensures ∙ ap (λ (b : SourceBook). b.newest) c.self.view_is)
