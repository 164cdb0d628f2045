use Rattle.std.proofs.Common.{◌∙◌, ap, rules, sym}
use Rattle.nsc_model.specs.History.{version_in}
use Rattle.nsc_seats.specs.Seats.{Seats}
use Rattle.nsc_writer.proofs.Later.{version_on}
use Rattle.nsc_sourcebook.specs.Book.{SourceBook}
use Rattle.nsc_sourcebook.proofs.Newest.{newest_is}
use Rattle.nsc_sourcebook.proofs.book.SourceBook.is_newest_of.Goals as goal

pub invariant_of-self : goal.invariant_of-self
invariant_of-self g c =
    let seen = ap (λ (s : Seats). s.seen) c.show.ensures.seats in
    (sym (ap (λ h. version_in h c.self.inside.version) (sym seen)) ∙ version_on c.self.inside.seats.seen c.args.writer.now.seen c.self.inside.version _ c.learn.ensures.told.legal c.learn-2.ensures.legal c.show.ensures.before c.self.invariant.0, c.self.invariant.1)

pub returns-clause-newest : goal.returns-clause-newest
returns-clause-newest g c content is =
    newest_is c.args.version c.self.inside.seats.seen c.args.writer.now.seen c.args.writer.now.cache content c.learn.ensures.told c.learn-2.ensures.legal c.show.ensures.before
    (ap (λ (b : SourceBook). version_in b.seen c.args.version) c.self.view_is ∙ is) (search rules)
