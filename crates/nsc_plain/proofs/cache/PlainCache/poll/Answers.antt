use Rattle.std.proofs.Common.{sym, ◌∙◌, ap}
use Rattle.std.proofs.lemmas.Bool.{OnTrue_from}
use Rattle.nsc_model.proofs.Contents.{one_content}
use Rattle.nsc_plain.specs.PlainCache.{PlainCache}
use Rattle.nsc_plain.specs.DbFiles.{DbFiles}
use Rattle.nsc_plain.proofs.cache.PlainCache.poll.Goals as goal
use Rattle.nsc_plain.proofs.cache.PlainCache.poll.Goals.{After-set_polled}

pub returns-then-is_same-clause-sources : goal.returns-then-is_same-clause-sources
returns-then-is_same-clause-sources g c =
    sym (ap (λ (s : PlainCache). s.cache.sources) c.self.view_is)
    ∙ (sym c.deref-2.ensures ∙ (sym (one_content _ _ (sym c.if-is_same.ensures)) ∙ (c.deref.ensures ∙ (c.content.ensures ∙ sym (ap (λ (p : DbFiles). p.files) c.set_polled.ensures)))))

pub returns-then-is_same-clause-polled : goal.returns-then-is_same-clause-polled
returns-then-is_same-clause-polled g c =
    OnTrue_from _ _
    (λ t. sym (ap (λ (s : PlainCache). s.cache.sources) c.self.view_is)
    ∙ (sym c.deref-2.ensures ∙ (sym (one_content _ _ (sym c.if-is_same.ensures)) ∙ (c.deref.ensures ∙ (c.content.ensures ∙ sym (ap (λ (p : DbFiles). p.files) c.set_polled.ensures))))))
