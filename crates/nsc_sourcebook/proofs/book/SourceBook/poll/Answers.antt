use Rattle.std.proofs.Common.{◌≡◌, ◌∙◌, Some, ap, sym, rules}
use Rattle.nsc_model.specs.History.{version_in}
use Rattle.nsc_model.specs.Content.{Content}
use Rattle.std.specs.Arc.{arc_value}
use Rattle.nsc_seats.specs.Seats.{Seats}
use Rattle.nsc_sourcebook.specs.Book.{Fetched, SourceBook}
use Rattle.nsc_sourcebook.proofs.Newest.{newest_held}
use Rattle.nsc_sourcebook.proofs.book.SourceBook.poll.Goals as goal

pub invariant_of-self : goal.invariant_of-self
invariant_of-self g c =
    let seen = ap (λ (s : Seats). s.seen) c.show.ensures.seats in
    let which : c.self.inside.db ≡ c.args.self.now.db = ap (λ (b : SourceBook). b.db) c.self.view_is ∙ ap (λ (b : SourceBook). b.db) c.in_ok-stamp.ensures.book in
    let held : g.A.Answerer.prepared_from (arc_value c.fetched.inside.kept) ≡ c.args.fetched.content = c.fetched.invariant.1 ∙ ap (λ (f : Fetched). f.content) c.fetched.view_is in
    (ap (λ h. version_in h c.in_ok-stamp.stamp.version) seen ∙ newest_held c.enter.new.writer.seen c.enter.new.writer.cache _ c.in_ok-stamp.stamp.version c.learn.ensures.told (search rules) ∙ ap (λ (x : Content). Some x) (sym c.fetched.invariant.1), rw (which, held) c.requires.fits.only)
