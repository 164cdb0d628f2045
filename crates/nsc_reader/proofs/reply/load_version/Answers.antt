use Rattle.std.proofs.Common.{◌≡◌, ◌∙◌, ℕ, ◌+◌, ◌*◌, ◌<◌, List, [], refl, sym, ap, subst, arith}
use Rattle.nsc_base.specs.Buf.{Buf}
use Rattle.nsc_base.specs.Nodes.{words_for}
use Rattle.nsc_model.specs.declared.in_place.InPlace.TheVariants.{Hit}
use Rattle.nsc_reader.specs.declared.stage.Stage.TheVariants.{Last, Reply}
use Rattle.nsc_reader.specs.Stages.{Goes, reply_in}
use Rattle.nsc_reader.proofs.Tellings.{goes_fixed, read_from}
use Rattle.nsc_reader.proofs.Replies.{version_last, version_read}
use Rattle.nsc_reader.proofs.reply.load_version.Goals as goal

pub returns-then-size_len-eq0-clause-goes : goal.returns-then-size_len-eq0-clause-goes
returns-then-size_len-eq0-clause-goes c =
    let p = c.args.pass.now in
    let layout = c.args.map.now.layout in
    let new = c.fixed-version.new.self in
    let told = c.fixed-version.ensures in
    let read = read_from p new c.args.place 3 (c.args.place + 3) c.fixed-version.result told.pass c.requires.at.found.found.node.place_is refl told.fixed in
    let empty : c.clear.new.self.content ≡ [] = ap (λ (b : Buf). b.content) c.clear.ensures in
    let len : c.size_len.result ≡ reply_in c.args.size = c.size_len.ensures.value in
    let none : reply_in c.args.size ≡ 0 = sym len ∙ c.if-size_len-eq0.true in
    let stage = Last (Hit c.args.number c.fixed-version.result c.size_not_found.result) in
    subst (λ (content : List ℕ). Goes layout p new content (20000 * c.args.place + 9001) stage) (sym empty)
    (goes_fixed layout p new [] (20000 * c.args.place + 9001) stage told.pass (version_last layout c.args.place c.args.size c.args.number new.searching.known c.fixed-version.result c.size_not_found.result p told.known c.requires.at read none c.size_not_found.ensures.value) (omega arith))

pub returns-clause-goes : goal.returns-clause-goes
returns-clause-goes c =
    let p = c.args.pass.now in
    let layout = c.args.map.now.layout in
    let new = c.fixed-version.new.self in
    let told = c.fixed-version.ensures in
    let read = read_from p new c.args.place 3 (c.args.place + 3) c.fixed-version.result told.pass c.requires.at.found.found.node.place_is refl told.fixed in
    let empty : c.clear.new.self.content ≡ [] = ap (λ (b : Buf). b.content) c.clear.ensures in
    let len : c.size_len.result ≡ reply_in c.args.size = c.size_len.ensures.value in
    let other = c.if-size_len-eq0.false in
    let some : 0 < words_for (reply_in c.args.size) = omega arith in
    let stage = Reply c.args.place c.args.size c.args.number c.fixed-version.result 0 in
    subst (λ (content : List ℕ). Goes layout p new content (20000 * c.args.place + 9001) stage) (sym empty)
    (goes_fixed layout p new [] (20000 * c.args.place + 9001) stage told.pass (version_read layout c.args.place c.args.size c.args.number new.searching.known c.fixed-version.result p told.known c.requires.at read some) (omega arith))
