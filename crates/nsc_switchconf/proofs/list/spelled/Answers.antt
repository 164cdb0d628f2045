use Rattle.std.proofs.Common.{◌≡◌, [], ◌∷◌, ◌++◌, Some, None, sym, ap, ◌∙◌}
use Rattle.nsc_model.specs.Services.{plain_step}
use Rattle.nsc_model.specs.Switches as switches
use Rattle.nsc_model.specs.Switches.{at_end, list_from, spelled_list, tokens_of}
use Rattle.nsc_switchconf.specs.Places.{moved, place_of}
use Rattle.nsc_switchconf.specs.Tokens.{token_of}
use Rattle.nsc_switchconf.proofs.Readings.{ahead, ahead-none, ahead-onto, ending, ends-between, moving}
use Rattle.nsc_switchconf.proofs.list.spelled.Goals as goal

pub loop-token-init : goal.loop-token-init
loop-token-init c =
    let none : c.new-list.result.items ≡ [] = c.new-list.ensures.items in
    let text = tokens_of c.args.text.now in
    sym (ahead-none (spelled_list c.args.text.now))
    ∙ ap (λ step. ahead [] (list_from switches.First step text)) (sym c.plain-step.ensures)
    ∙ ap (λ front. ahead front (list_from switches.First c.plain-step.result text)) (sym none)

pub returns-in-None-clause-list : goal.returns-in-None-clause-list
returns-in-None-clause-list c =
    sym (moving (spelled_list c.args.text.now) c.loop-token.list.items (place_of c.loop-token.place) (token_of c.in-Some.token) c.loop-token.step c.loop-token.left.now c.in-Some.rest.now None c.in-None.ensures c.in-Some.ensures.token c.loop-token.invariant)

pub loop-token-preserved-in-Some-To : goal.loop-token-preserved-in-Some-To
loop-token-preserved-in-Some-To c =
    let front = c.loop-token.list.items in
    let step = c.loop-token.step in
    moving (spelled_list c.args.text.now) front (place_of c.loop-token.place) (token_of c.in-Some.token) step c.loop-token.left.now c.in-Some.rest.now (Some c.in-Some-To.field-0) c.in-Some-To.ensures c.in-Some.ensures.token c.loop-token.invariant
    ∙ ap (λ moves. ahead front (moved step (λ next now. list_from next now (tokens_of c.in-Some.rest.now)) (Some moves))) c.in-Some-To.field-0-is

pub loop-token-preserved-in-Some-First : goal.loop-token-preserved-in-Some-First
loop-token-preserved-in-Some-First c =
    let front = c.loop-token.list.items in
    let step = c.loop-token.step in
    let rest = tokens_of c.in-Some.rest.now in
    moving (spelled_list c.args.text.now) front (place_of c.loop-token.place) (token_of c.in-Some.token) step c.loop-token.left.now c.in-Some.rest.now (Some c.in-Some-First.field-0) c.in-Some-First.ensures c.in-Some.ensures.token c.loop-token.invariant
    ∙ ap (λ moves. ahead front (moved step (λ next now. list_from next now rest) (Some moves))) c.in-Some-First.field-0-is
    ∙ ap (λ now. ahead front (list_from switches.Between now rest)) (sym c.plain-step-in-Some-First.ensures)

pub loop-token-preserved-in_ok-push-in-Some-Another : goal.loop-token-preserved-in_ok-push-in-Some-Another
loop-token-preserved-in_ok-push-in-Some-Another c =
    let front = c.loop-token.list.items in
    let step = c.loop-token.step in
    let rest = tokens_of c.in-Some.rest.now in
    let more : c.push.new.self.items ≡ front ++ step ∷ [] = c.in_ok-push-in-Some-Another.ensures.items in
    moving (spelled_list c.args.text.now) front (place_of c.loop-token.place) (token_of c.in-Some.token) step c.loop-token.left.now c.in-Some.rest.now (Some c.in-Some-Another.field-0) c.in-Some-Another.ensures c.in-Some.ensures.token c.loop-token.invariant
    ∙ ap (λ moves. ahead front (moved step (λ next now. list_from next now rest) (Some moves))) c.in-Some-Another.field-0-is
    ∙ ahead-onto front step (list_from switches.Between (plain_step c.in-Some-Another.service) rest)
    ∙ ap (λ steps. ahead steps (list_from switches.Between (plain_step c.in-Some-Another.service) rest)) (sym more)
    ∙ ap (λ now. ahead c.push.new.self.items (list_from switches.Between now rest)) (sym c.plain-step-in-Some-Another.ensures)

pub loop-token-preserved : goal.loop-token-preserved
loop-token-preserved c =
    let front = c.loop-token.list.items in
    let step = c.loop-token.step in
    let rest = tokens_of c.in-Some.rest.now in
    moving (spelled_list c.args.text.now) front (place_of c.loop-token.place) (token_of c.in-Some.token) step c.loop-token.left.now c.in-Some.rest.now (Some c.in-Some-Rule.field-0) c.in-Some-Rule.ensures c.in-Some.ensures.token c.loop-token.invariant
    ∙ ap (λ moves. ahead front (moved step (λ next now. list_from next now rest) (Some moves))) c.in-Some-Rule.field-0-is
    ∙ ap (λ now. ahead front (list_from switches.Ruled now rest)) (sym c.applied_to-step.ensures)

pub returns-in_ok-push-in-Between-clause-list : goal.returns-in_ok-push-in-Between-clause-list
returns-in_ok-push-in-Between-clause-list c =
    let front = c.loop-token.list.items in
    let step = c.loop-token.step in
    let more : c.push-in-Between.new.self.items ≡ front ++ step ∷ [] = c.in_ok-push-in-Between.ensures.items in
    ap Some more
    ∙ sym (ap (λ place. ahead front (at_end (place_of place) step)) c.in-Between.is)
    ∙ sym (ending (spelled_list c.args.text.now) front (place_of c.loop-token.place) step c.loop-token.left.now c.in_default.ensures.token c.loop-token.invariant)

pub returns-in_default-place : goal.returns-in_default-place
returns-in_default-place c =
    let front = c.loop-token.list.items in
    let step = c.loop-token.step in
    record {
      list = sym (ending (spelled_list c.args.text.now) front (place_of c.loop-token.place) step c.loop-token.left.now c.in_default.ensures.token c.loop-token.invariant
          ∙ ap (ahead front) (ends-between c.loop-token.place step c.in_default-place.not-Between));
      some = tt;
    }
