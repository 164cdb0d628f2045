use Rattle.std.proofs.Common.{◌≡◌, ℕ, ◌++◌, List, length, ap, ◌∙◌}
use Rattle.nsc_model.specs.Kinds.{type_number}
use Rattle.nsc_model.specs.Wire.{field}
use Rattle.nsc_model.specs.Image.{Saved, mark_of, wide_field}
use Rattle.nsc_image.proofs.Fields.{more}
use Rattle.nsc_image.proofs.room.put_saved.Goals as goal

pub returns-clause-ok : goal.returns-clause-ok
returns-clause-ok c =
    let a : List ℕ = c.args.out.now.items in
    let s : Saved = c.args.saved.now in
    let number : List ℕ = wide_field s.number in
    let kind : List ℕ = field (type_number s.request.kind) in
    let key_length : List ℕ = field (length s.request.key) in
    let reply_length : List ℕ = field (length s.answer.bytes) in
    let mark : List ℕ = field (mark_of s.answer.not_found) in
    let timeout : List ℕ = wide_field s.timeout in
    let p1 : c.put_wide_field.new.out.items ≡ a ++ number =
    c.put_wide_field.ensures.items ∙ ap (λ (x : List ℕ). x ++ wide_field c.number.result) c.reserve.ensures.items ∙ ap (λ n. a ++ wide_field n) c.number.ensures in
    let p2 : c.put_field.new.out.items ≡ a ++ (number ++ kind) =
    more c.put_wide_field.new.out.items a number c.put_field.new.out.items kind p1 (c.put_field.ensures.items ∙ ap (λ n. c.put_wide_field.new.out.items ++ field n) (c.number-2.ensures ∙ ap type_number c.kind.ensures)) in
    let p3 : c.put_field-2.new.out.items ≡ a ++ (number ++ kind ++ key_length) =
    more c.put_field.new.out.items a (number ++ kind) c.put_field-2.new.out.items key_length p2 (c.put_field-2.ensures.items ∙ ap (λ (k : List ℕ). c.put_field.new.out.items ++ field (length k)) c.key-key.ensures.value) in
    let p4 : c.put_field-3.new.out.items ≡ a ++ (number ++ kind ++ key_length ++ reply_length) =
    more c.put_field-2.new.out.items a (number ++ kind ++ key_length) c.put_field-3.new.out.items reply_length p3 (c.put_field-3.ensures.items ∙ ap (λ (r : List ℕ). c.put_field-2.new.out.items ++ field (length r)) c.reply-reply.ensures.value) in
    let p5 : c.put_field-4.new.out.items ≡ a ++ (number ++ kind ++ key_length ++ reply_length ++ mark) =
    more c.put_field-3.new.out.items a (number ++ kind ++ key_length ++ reply_length) c.put_field-4.new.out.items mark p4
    (c.put_field-4.ensures.items ∙ ap (λ n. c.put_field-3.new.out.items ++ field n) (c.mark.ensures ∙ ap mark_of c.is_not_found.ensures)) in
    let count : List ℕ = field s.reloads in
    let p6 : c.put_field-5.new.out.items ≡ a ++ (number ++ kind ++ key_length ++ reply_length ++ mark ++ count) =
    more c.put_field-4.new.out.items a (number ++ kind ++ key_length ++ reply_length ++ mark) c.put_field-5.new.out.items count p5
    (c.put_field-5.ensures.items ∙ ap (λ n. c.put_field-4.new.out.items ++ field n) c.reloads.ensures) in
    let p7 : c.put_wide_field-2.new.out.items ≡ a ++ (number ++ kind ++ key_length ++ reply_length ++ mark ++ count ++ timeout) =
    more c.put_field-5.new.out.items a (number ++ kind ++ key_length ++ reply_length ++ mark ++ count) c.put_wide_field-2.new.out.items timeout p6
    (c.put_wide_field-2.ensures.items ∙ ap (λ n. c.put_field-5.new.out.items ++ wide_field n) c.timeout.ensures) in
    let p8 : c.put.new.out.items ≡ a ++ (number ++ kind ++ key_length ++ reply_length ++ mark ++ count ++ timeout ++ s.request.key) =
    more c.put_wide_field-2.new.out.items a (number ++ kind ++ key_length ++ reply_length ++ mark ++ count ++ timeout) c.put.new.out.items s.request.key p7
    (c.put.ensures.items ∙ ap (λ (k : List ℕ). c.put_wide_field-2.new.out.items ++ k) c.key-key.ensures.value) in
    more c.put.new.out.items a (number ++ kind ++ key_length ++ reply_length ++ mark ++ count ++ timeout ++ s.request.key) c.put-2.new.out.items s.answer.bytes p8
    (c.put-2.ensures.items ∙ ap (λ (r : List ℕ). c.put.new.out.items ++ r) c.reply-reply.ensures.value)
