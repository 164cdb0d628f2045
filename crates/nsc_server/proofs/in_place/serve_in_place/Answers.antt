use Rattle.std.proofs.Common.{◌≡◌, ◌∙◌, ℕ, ◌%◌, List, refl, sym, ap, subst}
use Rattle.nsc_base.specs.Text.{part}
use Rattle.nsc_model.specs.declared.answer.Request.{Request}
use Rattle.nsc_model.specs.declared.in_place.InPlace.{InPlace}
use Rattle.nsc_model.specs.declared.in_place.InPlace.TheVariants.{Hit}
use Rattle.nsc_model.specs.Databases.{database_in}
use Rattle.nsc_model.specs.Kinds.{database_of}
use Rattle.nsc_model.specs.Wire.{Look}
use Rattle.nsc_server.specs.InPlace.{IsHit, Searches}
use Rattle.nsc_server.specs.Outcomes.{side}
use Rattle.nsc_server.specs.Scopes.{IsKeptBack}
use Rattle.nsc_server.proofs.InPlace.{offered}
use Rattle.nsc_server.proofs.in_place.serve_in_place.Goals as goal

-- an entry answers, and its reply is told
pub returns-else-is_kept_back-clause-served : goal.returns-else-is_kept_back-clause-served
returns-else-is_kept_back-clause-served g c =
    let scopes = c.args.scopes in
    let bytes = c.args.bytes.now in
    let which = c.of-db.result in
    let before = side g.S.Store g.K.Sink c.args.passes.now c.args.conn_out.now in
    let after = side g.S.Store g.K.Sink c.seek-sought.new.passes c.offer.new.conn_out in
    let request : Request = record { kind = c.in-Some.lookup.kind; key = part bytes c.in-Some.lookup.key } in
    let content = c.seek-sought.new.room.content in
    let reply = c.bytes-in-Hit.result.now in
    let concerns : database_of c.in-Some.lookup.kind ≡ which = sym c.of-db.ensures in
    let pass = database_in before.passes which in
    let pass' = database_in after.passes which in
    let answers = subst (λ (a : InPlace). Searches pass pass' (record { kind = c.in-Some.lookup.kind; key = c.of.result.now }) content a) c.in-Hit.is c.seek-sought.ensures.answer in
    let asked = subst (λ (key : List ℕ). Searches pass pass' (record { kind = c.in-Some.lookup.kind; key = key }) content (Hit c.in-Hit.number c.in-Hit.version c.in-Hit.not_found)) c.of.ensures.bytes answers in
    let found = subst (λ (said : List ℕ). Searches pass pass' request said (Hit c.in-Hit.number c.in-Hit.version c.in-Hit.not_found)) (sym c.bytes-in-Hit.ensures.content) asked in
    let told = subst (λ (said : List ℕ). IsKeptBack scopes (Look request) said → ⊥) (c.bytes.ensures.content ∙ sym c.bytes-in-Hit.ensures.content) (c.if-is_kept_back.ensures.told request concerns) in
    let hit : IsHit scopes bytes before.passes after.passes which c.in-Hit.not_found reply = record {
      request = request;
      asks = c.in-Some.ensures.asks;
      concerns = concerns;
      open_to = c.in-Some.ensures.open_to;
      told = told;
      number = c.in-Hit.number;
      version = c.in-Hit.version;
      found = found;
    } in
    offered scopes bytes before after which c.in-Hit.not_found reply c.offer.result c.seek-sought.ensures.others hit c.offer.ensures
