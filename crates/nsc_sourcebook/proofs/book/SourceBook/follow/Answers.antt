use Rattle.std.proofs.Common.{refl, subst, sym}
use Rattle.nsc_writer.proofs.Later.{version_on}
use Rattle.nsc_sourcebook.specs.Book.{FitsBook, SourceBook}
use Rattle.nsc_sourcebook.proofs.Newest.{fits_on}
use Rattle.nsc_sourcebook.proofs.book.SourceBook.follow.Goals as goal

pub invariant_of-self : goal.invariant_of-self
invariant_of-self g c = (version_on c.self.inside.seats.seen c.follow-followed.new.self.seen c.self.inside.version _ c.learn-2.ensures.legal c.learn.ensures.legal c.follow-followed.ensures.before c.self.invariant.0, c.self.invariant.1)

pub returns-clause-fits : goal.returns-clause-fits
returns-clause-fits g c fetched fits =
    let before = subst (λ (b : SourceBook). FitsBook b fetched) (sym c.self.view_is) fits in
    fits_on _ _ fetched c.learn.ensures.legal c.learn-2.ensures.legal c.follow-followed.ensures.before refl before
