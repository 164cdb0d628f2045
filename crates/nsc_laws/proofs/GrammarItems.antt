-- What is read of a service list token by token is written by items.
use Rattle.std.proofs.Common.{◌≡◌, ℕ, Bool, true, false, List, [], ◌∷◌, ◌++◌, Option, Some, None, refl, sym, ◌∙◌, ap, subst, append_assoc}
use Rattle.nsc_model.specs.declared.switch.SwitchService.TheVariants.{Other}
use Rattle.nsc_model.specs.declared.switch.SwitchAction.{SwitchAction}
use Rattle.nsc_model.specs.declared.switch.SwitchStep.{SwitchStep}
use Rattle.nsc_model.specs.Services.{plain_step}
use Rattle.nsc_model.specs.Switches.{AllGaps, Begin, Between, Close, Equals, Equated, First, Gap, Group, Item, Named, Negated, Next, Not, Open, Place, Rest, Rule, Ruled, Service, WritesSteps, Status, Token, Word, Writes, WritesGroup, WritesRule, WritesRules, action_named, at_begin, at_between, at_equated, at_first, at_named, at_negated, at_next, at_place, at_ruled, after_action, after_status, list_from, negation, onto_steps, ruled, ruled_by, service_of_word, spelled_list, status_named, steps_after, steps_of, tokens_of}
use Rattle.nsc_laws.proofs.Grammar.{three, reads, rule-append}

-- the end of brackets: nothing but white space before the `]`, or rules
abbrev Tail : List Rule → List Token → Type 0
Tail [] tail = (after : List Token) × AllGaps after × (tail ≡ after ++ Close ∷ [])
Tail (rule ∷ rules) tail =
    (gaps : List Token) × (inner : List Token) × (after : List Token) × AllGaps gaps × WritesRules (rule ∷ rules) inner × AllGaps after × (tail ≡ gaps ++ (inner ++ (after ++ Close ∷ [])))

-- with a rule at least
abbrev FilledTail : List Rule → List Token → Type 0
FilledTail [] tail = ⊥
FilledTail (rule ∷ rules) tail = Tail (rule ∷ rules) tail

-- with white space before the rules
abbrev RuledTail : List Rule → List Token → Type 0
RuledTail [] tail = Tail [] tail
RuledTail (rule ∷ rules) tail = (later : List Token) × Tail (rule ∷ rules) later × (tail ≡ Gap ∷ later)

-- tokens are the end of brackets and items after them, which come to these steps
record Claim (shape : List Rule → List Token → Type 0) (step : SwitchStep) (tokens : List Token) (steps : List SwitchStep) : Type 0 where
  rules : List Rule
  tail : List Token
  rest : List Token
  items : List Item
  shaped : shape rules tail
  is : tokens ≡ tail ++ rest
  writes : Writes items rest
  steps_are : steps ≡ steps_after (ruled_by rules step) items

-- an action, and such an end
record EquatedClaim (negated : Bool) (status : Status) (step : SwitchStep) (tokens : List Token) (steps : List SwitchStep) : Type 0 where
  after : List Token
  word : List ℕ
  action : SwitchAction
  rest : List Token
  gaps : AllGaps after
  is : tokens ≡ after ++ Word word ∷ rest
  action_is : action_named word ≡ Some action
  claim : Claim RuledTail (ruled (record { negated = negated; status = status; action = action }) step) rest steps

-- the `=`, and such an action
record NamedClaim (negated : Bool) (status : Status) (step : SwitchStep) (tokens : List Token) (steps : List SwitchStep) : Type 0 where
  before : List Token
  rest : List Token
  gaps : AllGaps before
  is : tokens ≡ before ++ Equals ∷ rest
  claim : EquatedClaim negated status step rest steps

-- a status, and such a `=`
record NegatedClaim (step : SwitchStep) (tokens : List Token) (steps : List SwitchStep) : Type 0 where
  word : List ℕ
  status : Status
  rest : List Token
  is : tokens ≡ Word word ∷ rest
  status_is : status_named word ≡ Some status
  claim : NamedClaim true status step rest steps

-- what tokens are that are read from a place on, and come to these steps
abbrev ClaimAt : Place → SwitchStep → List Token → List SwitchStep → Type 0
ClaimAt First step tokens steps = (items : List Item) × Writes items tokens × (steps_of items ≡ Some steps)
ClaimAt Between step tokens steps = (items : List Item) × Writes items tokens × (steps ≡ steps_after step items)
ClaimAt Begin step tokens steps = Claim FilledTail step tokens steps
ClaimAt Negated step tokens steps = NegatedClaim step tokens steps
ClaimAt (Named negated status) step tokens steps = NamedClaim negated status step tokens steps
ClaimAt (Equated negated status) step tokens steps = EquatedClaim negated status step tokens steps
ClaimAt Ruled step tokens steps = Claim RuledTail step tokens steps
ClaimAt Next step tokens steps = Claim Tail step tokens steps

abbrev Later : List Token → Type 0
Later tokens = (place : Place) (step : SwitchStep) (steps : List SwitchStep) → list_from place step tokens ≡ Some steps → ClaimAt place step tokens steps

abbrev reading : List Token → Rest
reading tokens next now = list_from next now tokens

-- a rule, and rules after it
rule_before : (rule : Rule) (rules : List Rule) (one tail : List Token) → WritesRule rule one → RuledTail rules tail → Tail (rule ∷ rules) (one ++ tail)
rule_before rule [] one tail writes (after, gaps, is) = ([], one, after, tt, writes, gaps, ap (λ (ys : List Token). one ++ ys) is)
rule_before rule (next ∷ rules) one tail writes (later, (gaps, inner, after, are, more, spaces, is), front) =
    let whole = three one (Gap ∷ gaps) inner (after ++ Close ∷ []) in
    ([], one ++ Gap ∷ gaps ++ inner, after, tt, (one, gaps, inner, writes, are, refl, more), spaces, ap (λ (ys : List Token). one ++ ys) (front ∙ ap (λ (ys : List Token). Gap ∷ ys) is) ∙ sym whole)

-- a status, and what is after it, are a rule and what is after that
rule-claim : (negated : Bool) (word : List ℕ) (status : Status) (step : SwitchStep) (tokens : List Token) (steps : List SwitchStep) → status_named word ≡ Some status → NamedClaim negated status step tokens steps → Claim FilledTail step (negation negated ++ Word word ∷ tokens) steps
rule-claim negated word status step tokens steps named claim =
    let equated = claim.claim in
    let last = equated.claim in
    let rule : Rule = record { negated = negated; status = status; action = equated.action } in
    let one = negation negated ++ Word word ∷ claim.before ++ Equals ∷ equated.after ++ Word equated.word ∷ [] in
    let writes : WritesRule rule one = record {
      status_word = word;
      action_word = equated.word;
      before = claim.before;
      after = equated.after;
      before_gaps = claim.gaps;
      after_gaps = equated.gaps;
      is = refl;
      status_is = named;
      action_is = equated.action_is;
    } in
    record {
      rules = rule ∷ last.rules;
      tail = one ++ last.tail;
      rest = last.rest;
      items = last.items;
      shaped = rule_before rule last.rules one last.tail writes last.shaped;
      is = ap (λ (ys : List Token). negation negated ++ Word word ∷ ys) (claim.is ∙ ap (λ (ys : List Token). claim.before ++ Equals ∷ ys) (equated.is ∙ ap (λ (ys : List Token). equated.after ++ Word equated.word ∷ ys) last.is))
          ∙ sym (rule-append negated word equated.word claim.before equated.after (last.tail ++ last.rest))
          ∙ sym (append_assoc one last.tail last.rest);
      writes = last.writes;
      steps_are = last.steps_are;
    }

negated-claim : (step : SwitchStep) (tokens : List Token) (steps : List SwitchStep) → NegatedClaim step tokens steps → Claim FilledTail step (Not ∷ tokens) steps
negated-claim step tokens steps claim =
    subst (λ (ys : List Token). Claim FilledTail step (Not ∷ ys) steps) (sym claim.is) (rule-claim true claim.word claim.status step claim.rest steps claim.status_is claim.claim)

-- a rule at least is no hindrance where none need be
loosen : (rules : List Rule) (tail : List Token) → FilledTail rules tail → Tail rules tail
loosen [] tail shaped = absurd shaped
loosen (rule ∷ rules) tail shaped = shaped

any-claim : (step : SwitchStep) (tokens : List Token) (steps : List SwitchStep) → Claim FilledTail step tokens steps → Claim Tail step tokens steps
any-claim step tokens steps claim = record {
  rules = claim.rules;
  tail = claim.tail;
  rest = claim.rest;
  items = claim.items;
  shaped = loosen claim.rules claim.tail claim.shaped;
  is = claim.is;
  writes = claim.writes;
  steps_are = claim.steps_are;
}

-- white space at the front
gap_before : (rules : List Rule) (tail : List Token) → Tail rules tail → Tail rules (Gap ∷ tail)
gap_before [] tail (after, gaps, is) = (Gap ∷ after, gaps, ap (λ (ys : List Token). Gap ∷ ys) is)
gap_before (rule ∷ rules) tail (gaps, inner, after, are, writes, spaces, is) = (Gap ∷ gaps, inner, after, are, writes, spaces, ap (λ (ys : List Token). Gap ∷ ys) is)

gap_before-filled : (rules : List Rule) (tail : List Token) → FilledTail rules tail → FilledTail rules (Gap ∷ tail)
gap_before-filled [] tail shaped = shaped
gap_before-filled (rule ∷ rules) tail shaped = gap_before (rule ∷ rules) tail shaped

gap_before-ruled : (rules : List Rule) (tail : List Token) → Tail rules tail → RuledTail rules (Gap ∷ tail)
gap_before-ruled [] tail shaped = gap_before [] tail shaped
gap_before-ruled (rule ∷ rules) tail shaped = (tail, shaped, refl)

gap-claim : (from to : List Rule → List Token → Type 0) → ((rules : List Rule) (tail : List Token) → from rules tail → to rules (Gap ∷ tail)) → (step : SwitchStep) (tokens : List Token) (steps : List SwitchStep) → Claim from step tokens steps → Claim to step (Gap ∷ tokens) steps
gap-claim from to goes step tokens steps claim = record {
  rules = claim.rules;
  tail = Gap ∷ claim.tail;
  rest = claim.rest;
  items = claim.items;
  shaped = goes claim.rules claim.tail claim.shaped;
  is = ap (λ (ys : List Token). Gap ∷ ys) claim.is;
  writes = claim.writes;
  steps_are = claim.steps_are;
}

gap-items : (items : List Item) (tokens : List Token) → Writes items tokens → Writes items (Gap ∷ tokens)
gap-items [] tokens writes = writes
gap-items (Service word ∷ items) tokens (gaps, rest, are, is, later) = (Gap ∷ gaps, rest, are, ap (λ (ys : List Token). Gap ∷ ys) is, later)
gap-items (Group rules ∷ items) tokens (gaps, group, rest, are, writes, is, later) = (Gap ∷ gaps, group, rest, are, writes, ap (λ (ys : List Token). Gap ∷ ys) is, later)

-- the `]`
close-claim : (shape : List Rule → List Token → Type 0) → shape [] (Close ∷ []) → (step : SwitchStep) (tokens : List Token) (steps : List SwitchStep) → ClaimAt Between step tokens steps → Claim shape step (Close ∷ tokens) steps
close-claim shape shaped step tokens steps (items, writes, is) = record {
  rules = [];
  tail = Close ∷ [];
  rest = tokens;
  items = items;
  shaped = shaped;
  is = refl;
  writes = writes;
  steps_are = is;
}

-- the `[`
group-items : (rules : List Rule) (tail rest tokens : List Token) (items : List Item) → FilledTail rules tail → tokens ≡ tail ++ rest → Writes items rest → Writes (Group rules ∷ items) (Open ∷ tokens)
group-items [] tail rest tokens items shaped falls writes = absurd shaped
group-items (rule ∷ rules) tail rest tokens items (gaps, inner, after, are, more, spaces, is) falls writes =
    let group : WritesGroup (rule ∷ rules) (Open ∷ tail) = record {
      before = gaps;
      inner = inner;
      after = after;
      before_gaps = are;
      after_gaps = spaces;
      is = ap (λ (ys : List Token). Open ∷ ys) (is ∙ sym (three gaps inner after (Close ∷ [])));
      rules_are = more;
    } in
    ([], Open ∷ tail, rest, tt, group, ap (λ (ys : List Token). Open ∷ ys) falls, writes)

-- names that are read are names
status-some : (negated : Bool) (o : Option Status) (step : SwitchStep) (rest : Rest) (steps : List SwitchStep) → after_status negated o step rest ≡ Some steps → (status : Status) × (o ≡ Some status) × (rest (Named negated status) step ≡ Some steps)
status-some negated None step rest steps is = cc
status-some negated (Some status) step rest steps is = (status, refl, is)

action-some : (negated : Bool) (status : Status) (o : Option SwitchAction) (step : SwitchStep) (rest : Rest) (steps : List SwitchStep) → after_action negated status o step rest ≡ Some steps → (action : SwitchAction) × (o ≡ Some action) × (rest Ruled (ruled (record { negated = negated; status = status; action = action }) step) ≡ Some steps)
action-some negated status None step rest steps is = cc
action-some negated status (Some action) step rest steps is = (action, refl, is)

onto-some : (step : SwitchStep) (o : Option (List SwitchStep)) (steps : List SwitchStep) → onto_steps step o ≡ Some steps → (more : List SwitchStep) × (o ≡ Some more) × (steps ≡ step ∷ more)
onto-some step None steps is = cc
onto-some step (Some more) steps is = (more, refl, cc)

-- one token more, at each place
first-more : (token : Token) (tokens : List Token) (step : SwitchStep) (steps : List SwitchStep) → Later tokens → at_first token step (reading tokens) ≡ Some steps → ClaimAt First step (token ∷ tokens) steps
first-more (Word bytes) tokens step steps later is =
    let claim = later Between (plain_step (service_of_word bytes)) steps is in
    (Service bytes ∷ claim.0, ([], tokens, tt, refl, claim.1), ap Some (sym claim.2))
first-more Gap tokens step steps later is =
    let claim = later First step steps is in
    (claim.0, gap-items claim.0 tokens claim.1, claim.2)
first-more Open tokens step steps later is = cc
first-more Close tokens step steps later is = cc
first-more Not tokens step steps later is = cc
first-more Equals tokens step steps later is = cc

between-more : (token : Token) (tokens : List Token) (step : SwitchStep) (steps : List SwitchStep) → Later tokens → at_between token step (reading tokens) ≡ Some steps → ClaimAt Between step (token ∷ tokens) steps
between-more (Word bytes) tokens step steps later is =
    let (more, found, are) = onto-some step (list_from Between (plain_step (service_of_word bytes)) tokens) steps is in
    let claim = later Between (plain_step (service_of_word bytes)) more found in
    (Service bytes ∷ claim.0, ([], tokens, tt, refl, claim.1), are ∙ ap (λ later. step ∷ later) claim.2)
between-more Gap tokens step steps later is =
    let claim = later Between step steps is in
    (claim.0, gap-items claim.0 tokens claim.1, claim.2)
between-more Open tokens step steps later is =
    let claim = later Begin step steps is in
    (Group claim.rules ∷ claim.items, group-items claim.rules claim.tail claim.rest tokens claim.items claim.shaped claim.is claim.writes, claim.steps_are)
between-more Close tokens step steps later is = cc
between-more Not tokens step steps later is = cc
between-more Equals tokens step steps later is = cc

begin-more : (token : Token) (tokens : List Token) (step : SwitchStep) (steps : List SwitchStep) → Later tokens → at_begin token step (reading tokens) ≡ Some steps → ClaimAt Begin step (token ∷ tokens) steps
begin-more (Word bytes) tokens step steps later is =
    let found = status-some false (status_named bytes) step (reading tokens) steps is in
    rule-claim false bytes found.0 step tokens steps found.1 (later (Named false found.0) step steps found.2)
begin-more Gap tokens step steps later is = gap-claim FilledTail FilledTail gap_before-filled step tokens steps (later Begin step steps is)
begin-more Not tokens step steps later is = negated-claim step tokens steps (later Negated step steps is)
begin-more Open tokens step steps later is = cc
begin-more Close tokens step steps later is = cc
begin-more Equals tokens step steps later is = cc

negated-more : (token : Token) (tokens : List Token) (step : SwitchStep) (steps : List SwitchStep) → Later tokens → at_negated token step (reading tokens) ≡ Some steps → ClaimAt Negated step (token ∷ tokens) steps
negated-more (Word bytes) tokens step steps later is =
    let found = status-some true (status_named bytes) step (reading tokens) steps is in
    record { word = bytes; status = found.0; rest = tokens; is = refl; status_is = found.1; claim = later (Named true found.0) step steps found.2 }
negated-more Gap tokens step steps later is = cc
negated-more Not tokens step steps later is = cc
negated-more Open tokens step steps later is = cc
negated-more Close tokens step steps later is = cc
negated-more Equals tokens step steps later is = cc

named-more : (negated : Bool) (status : Status) (token : Token) (tokens : List Token) (step : SwitchStep) (steps : List SwitchStep) → Later tokens → at_named negated status token step (reading tokens) ≡ Some steps → ClaimAt (Named negated status) step (token ∷ tokens) steps
named-more negated status Equals tokens step steps later is = record { before = []; rest = tokens; gaps = tt; is = refl; claim = later (Equated negated status) step steps is }
named-more negated status Gap tokens step steps later is =
    let claim = later (Named negated status) step steps is in
    record { before = Gap ∷ claim.before; rest = claim.rest; gaps = claim.gaps; is = ap (λ (ys : List Token). Gap ∷ ys) claim.is; claim = claim.claim }
named-more negated status (Word bytes) tokens step steps later is = cc
named-more negated status Not tokens step steps later is = cc
named-more negated status Open tokens step steps later is = cc
named-more negated status Close tokens step steps later is = cc

equated-more : (negated : Bool) (status : Status) (token : Token) (tokens : List Token) (step : SwitchStep) (steps : List SwitchStep) → Later tokens → at_equated negated status token step (reading tokens) ≡ Some steps → ClaimAt (Equated negated status) step (token ∷ tokens) steps
equated-more negated status (Word bytes) tokens step steps later is =
    let found = action-some negated status (action_named bytes) step (reading tokens) steps is in
    let rule : Rule = record { negated = negated; status = status; action = found.0 } in
    record { after = []; word = bytes; action = found.0; rest = tokens; gaps = tt; is = refl; action_is = found.1; claim = later Ruled (ruled rule step) steps found.2 }
equated-more negated status Gap tokens step steps later is =
    let claim = later (Equated negated status) step steps is in
    record { after = Gap ∷ claim.after; word = claim.word; action = claim.action; rest = claim.rest; gaps = claim.gaps; is = ap (λ (ys : List Token). Gap ∷ ys) claim.is; action_is = claim.action_is; claim = claim.claim }
equated-more negated status Equals tokens step steps later is = cc
equated-more negated status Not tokens step steps later is = cc
equated-more negated status Open tokens step steps later is = cc
equated-more negated status Close tokens step steps later is = cc

ruled-more : (token : Token) (tokens : List Token) (step : SwitchStep) (steps : List SwitchStep) → Later tokens → at_ruled token step (reading tokens) ≡ Some steps → ClaimAt Ruled step (token ∷ tokens) steps
ruled-more Gap tokens step steps later is = gap-claim Tail RuledTail gap_before-ruled step tokens steps (later Next step steps is)
ruled-more Close tokens step steps later is = close-claim RuledTail ([], tt, refl) step tokens steps (later Between step steps is)
ruled-more (Word bytes) tokens step steps later is = cc
ruled-more Not tokens step steps later is = cc
ruled-more Open tokens step steps later is = cc
ruled-more Equals tokens step steps later is = cc

next-more : (token : Token) (tokens : List Token) (step : SwitchStep) (steps : List SwitchStep) → Later tokens → at_next token step (reading tokens) ≡ Some steps → ClaimAt Next step (token ∷ tokens) steps
next-more Gap tokens step steps later is = gap-claim Tail Tail gap_before step tokens steps (later Next step steps is)
next-more Close tokens step steps later is = close-claim Tail ([], tt, refl) step tokens steps (later Between step steps is)
next-more Not tokens step steps later is = any-claim step (Not ∷ tokens) steps (negated-claim step tokens steps (later Negated step steps is))
next-more (Word bytes) tokens step steps later is =
    let found = status-some false (status_named bytes) step (reading tokens) steps is in
    any-claim step (Word bytes ∷ tokens) steps (rule-claim false bytes found.0 step tokens steps found.1 (later (Named false found.0) step steps found.2))
next-more Open tokens step steps later is = cc
next-more Equals tokens step steps later is = cc

more : (place : Place) (token : Token) (tokens : List Token) (step : SwitchStep) (steps : List SwitchStep) → Later tokens → at_place place token step (reading tokens) ≡ Some steps → ClaimAt place step (token ∷ tokens) steps
more First token tokens step steps later is = first-more token tokens step steps later is
more Between token tokens step steps later is = between-more token tokens step steps later is
more Begin token tokens step steps later is = begin-more token tokens step steps later is
more Negated token tokens step steps later is = negated-more token tokens step steps later is
more (Named negated status) token tokens step steps later is = named-more negated status token tokens step steps later is
more (Equated negated status) token tokens step steps later is = equated-more negated status token tokens step steps later is
more Ruled token tokens step steps later is = ruled-more token tokens step steps later is
more Next token tokens step steps later is = next-more token tokens step steps later is

none : (place : Place) (step : SwitchStep) (steps : List SwitchStep) → list_from place step [] ≡ Some steps → ClaimAt place step [] steps
unfolding list_from
none First step steps is = cc
none Between step steps is = ([], tt, cc)
none Begin step steps is = cc
none Negated step steps is = cc
none (Named negated status) step steps is = cc
none (Equated negated status) step steps is = cc
none Ruled step steps is = cc
none Next step steps is = cc

claims : (tokens : List Token) → Later tokens
claims [] place step steps is = none place step steps is
claims (token ∷ tokens) place step steps is = more place token tokens step steps (claims tokens) (sym (reads place step token tokens) ∙ is)

pub read_is_written : (text : List ℕ) (steps : List SwitchStep) → spelled_list text ≡ Some steps → WritesSteps text steps
read_is_written text steps is = claims (tokens_of text) First (plain_step Other) steps is
