-- What the items of a service list write is read token by token.
use Rattle.std.proofs.Common.{◌≡◌, ℕ, Bool, true, false, List, [], ◌∷◌, ◌++◌, Some, refl, ◌∙◌, ap, append_assoc}
use Rattle.nsc_model.specs.declared.switch.SwitchService.TheVariants.{Other}
use Rattle.nsc_model.specs.declared.switch.SwitchAction.{SwitchAction}
use Rattle.nsc_model.specs.declared.switch.SwitchStep.{SwitchStep}
use Rattle.nsc_model.specs.Services.{plain_step}
use Rattle.nsc_model.specs.Switches.{AllGaps, Begin, Between, Close, Equals, Equated, First, Gap, Group, Item, Named, Negated, Next, Not, Open, Place, Rest, Rule, Ruled, Service, WritesSteps, Status, Token, Word, Writes, WritesGroup, WritesRule, WritesRules, action_named, at_place, after_action, after_status, list_from, negation, onto_steps, ruled, ruled_by, service_of_word, spelled_list, status_named, steps_after, steps_of, tokens_of}

-- ---- lists end to end

pub three : (a b c d : List Token) → a ++ b ++ c ++ d ≡ a ++ (b ++ (c ++ d))
three a b c d = append_assoc (a ++ b) c d ∙ append_assoc a b (c ++ d)

four : (a b c d e : List Token) → a ++ b ++ c ++ d ++ e ≡ a ++ (b ++ (c ++ (d ++ e)))
four a b c d e = append_assoc (a ++ b ++ c) d e ∙ three a b c (d ++ e)

-- ---- what is written is read

-- one token is read
pub reads : (place : Place) (step : SwitchStep) (token : Token) (tokens : List Token) → list_from place step (token ∷ tokens) ≡ at_place place token step (λ next now. list_from next now tokens)
unfolding list_from
reads place step token tokens = refl

ends : (step : SwitchStep) → list_from Between step [] ≡ Some (step ∷ [])
unfolding list_from
ends step = refl

-- a place where white space changes nothing
abbrev Stays : Place → Type 0
Stays place = (step : SwitchStep) (rest : Rest) → at_place place Gap step rest ≡ rest place step

gaps-read : (place : Place) → Stays place → (step : SwitchStep) (gaps tokens : List Token) → AllGaps gaps → list_from place step (gaps ++ tokens) ≡ list_from place step tokens
gaps-read place stays step [] tokens are = refl
gaps-read place stays step (Gap ∷ gaps) tokens are =
    reads place step Gap (gaps ++ tokens) ∙ stays step (λ next now. list_from next now (gaps ++ tokens)) ∙ gaps-read place stays step gaps tokens are
gaps-read place stays step (Word bytes ∷ gaps) tokens are = absurd are
gaps-read place stays step (Open ∷ gaps) tokens are = absurd are
gaps-read place stays step (Close ∷ gaps) tokens are = absurd are
gaps-read place stays step (Not ∷ gaps) tokens are = absurd are
gaps-read place stays step (Equals ∷ gaps) tokens are = absurd are

-- white space alone, after an item
gaps-end : (step : SwitchStep) (gaps : List Token) → AllGaps gaps → list_from Between step gaps ≡ Some (step ∷ [])
gaps-end step [] are = ends step
gaps-end step (Gap ∷ gaps) are = reads Between step Gap gaps ∙ gaps-end step gaps are
gaps-end step (Word bytes ∷ gaps) are = absurd are
gaps-end step (Open ∷ gaps) are = absurd are
gaps-end step (Close ∷ gaps) are = absurd are
gaps-end step (Not ∷ gaps) are = absurd are
gaps-end step (Equals ∷ gaps) are = absurd are

-- a place where a rule may begin
record Rules (place : Place) : Type 0 where
  words : (bytes : List ℕ) (step : SwitchStep) (rest : Rest) → at_place place (Word bytes) step rest ≡ after_status false (status_named bytes) step rest
  negations : (step : SwitchStep) (rest : Rest) → at_place place Not step rest ≡ rest Negated step

rules_at_begin : Rules Begin
rules_at_begin = record { words = λ bytes step rest. refl; negations = λ step rest. refl }

rules_at_next : Rules Next
rules_at_next = record { words = λ bytes step rest. refl; negations = λ step rest. refl }

-- after its status, a rule goes on to its action
status-read : (negated : Bool) (status : Status) (action : SwitchAction) (word : List ℕ) (before after more : List Token) (step : SwitchStep) → AllGaps before → AllGaps after → action_named word ≡ Some action → list_from (Named negated status) step (before ++ (Equals ∷ (after ++ Word word ∷ more))) ≡ list_from Ruled (ruled (record { negated = negated; status = status; action = action }) step) more
status-read negated status action word before after more step first second is =
    gaps-read (Named negated status) (λ now rest. refl) step before (Equals ∷ (after ++ Word word ∷ more)) first
    ∙ reads (Named negated status) step Equals (after ++ Word word ∷ more)
    ∙ gaps-read (Equated negated status) (λ now rest. refl) step after (Word word ∷ more) second
    ∙ reads (Equated negated status) step (Word word) more
    ∙ ap (λ o. after_action negated status o step (λ next now. list_from next now more)) is

-- a rule with something after it, piece by piece
pub rule-append : (negated : Bool) (status action : List ℕ) (before after more : List Token) → negation negated ++ Word status ∷ before ++ Equals ∷ after ++ Word action ∷ [] ++ more ≡ negation negated ++ (Word status ∷ (before ++ (Equals ∷ (after ++ Word action ∷ more))))
rule-append true status action before after more = ap (λ (ys : List Token). Not ∷ Word status ∷ ys) (three before (Equals ∷ after) (Word action ∷ []) more)
rule-append false status action before after more = ap (λ (ys : List Token). Word status ∷ ys) (three before (Equals ∷ after) (Word action ∷ []) more)

front-read : (place : Place) → Rules place → (negated : Bool) (status : Status) (word : List ℕ) (step : SwitchStep) (more : List Token) → status_named word ≡ Some status → list_from place step (negation negated ++ Word word ∷ more) ≡ list_from (Named negated status) step more
front-read place may true status word step more is =
    reads place step Not (Word word ∷ more) ∙ may.negations step (λ next now. list_from next now (Word word ∷ more))
    ∙ reads Negated step (Word word) more ∙ ap (λ o. after_status true o step (λ next now. list_from next now more)) is
front-read place may false status word step more is =
    reads place step (Word word) more ∙ may.words word step (λ next now. list_from next now more)
    ∙ ap (λ o. after_status false o step (λ next now. list_from next now more)) is

rule-read : (place : Place) → Rules place → (rule : Rule) (tokens more : List Token) (step : SwitchStep) → WritesRule rule tokens → list_from place step (tokens ++ more) ≡ list_from Ruled (ruled rule step) more
rule-read place may rule tokens more step writes =
    ap (λ (ys : List Token). list_from place step (ys ++ more)) writes.is
    ∙ ap (list_from place step) (rule-append rule.negated writes.status_word writes.action_word writes.before writes.after more)
    ∙ front-read place may rule.negated rule.status writes.status_word step (writes.before ++ (Equals ∷ (writes.after ++ Word writes.action_word ∷ more))) writes.status_is
    ∙ status-read rule.negated rule.status rule.action writes.action_word writes.before writes.after more step writes.before_gaps writes.after_gaps writes.action_is

rules-read : (rules : List Rule) (place : Place) → Rules place → (tokens more : List Token) (step : SwitchStep) → WritesRules rules tokens → list_from place step (tokens ++ more) ≡ list_from Ruled (ruled_by rules step) more
rules-read [] place may tokens more step writes = absurd writes
rules-read (rule ∷ []) place may tokens more step writes = rule-read place may rule tokens more step writes
rules-read (rule ∷ next ∷ rules) place may tokens more step (one, gaps, rest, writes, are, is, later) =
    ap (λ (ys : List Token). list_from place step (ys ++ more)) is
    ∙ ap (list_from place step) (three one (Gap ∷ gaps) rest more)
    ∙ rule-read place may rule one (Gap ∷ (gaps ++ (rest ++ more))) step writes
    ∙ reads Ruled (ruled rule step) Gap (gaps ++ (rest ++ more))
    ∙ gaps-read Next (λ now other. refl) (ruled rule step) gaps (rest ++ more) are
    ∙ rules-read (next ∷ rules) Next rules_at_next rest more (ruled rule step) later

-- brackets close after a rule, with white space before at will
close-read : (after more : List Token) (step : SwitchStep) → AllGaps after → list_from Ruled step (after ++ Close ∷ more) ≡ list_from Between step more
close-read [] more step are = reads Ruled step Close more
close-read (Gap ∷ gaps) more step are =
    reads Ruled step Gap (gaps ++ Close ∷ more) ∙ gaps-read Next (λ now other. refl) step gaps (Close ∷ more) are ∙ reads Next step Close more
close-read (Word bytes ∷ gaps) more step are = absurd are
close-read (Open ∷ gaps) more step are = absurd are
close-read (Close ∷ gaps) more step are = absurd are
close-read (Not ∷ gaps) more step are = absurd are
close-read (Equals ∷ gaps) more step are = absurd are

group-read : (rules : List Rule) (group more : List Token) (step : SwitchStep) → WritesGroup rules group → list_from Between step (group ++ more) ≡ list_from Between (ruled_by rules step) more
group-read rules group more step writes =
    ap (λ (ys : List Token). list_from Between step (ys ++ more)) writes.is
    ∙ ap (list_from Between step) (ap (λ (ys : List Token). Open ∷ ys) (four writes.before writes.inner writes.after (Close ∷ []) more))
    ∙ reads Between step Open (writes.before ++ (writes.inner ++ (writes.after ++ Close ∷ more)))
    ∙ gaps-read Begin (λ now other. refl) step writes.before (writes.inner ++ (writes.after ++ Close ∷ more)) writes.before_gaps
    ∙ rules-read rules Begin rules_at_begin writes.inner (writes.after ++ Close ∷ more) step writes.rules_are
    ∙ close-read writes.after more (ruled_by rules step) writes.after_gaps

items-read : (items : List Item) (tokens : List Token) (step : SwitchStep) → Writes items tokens → list_from Between step tokens ≡ Some (steps_after step items)
items-read [] tokens step writes = gaps-end step tokens writes
items-read (Service word ∷ items) tokens step (gaps, rest, are, is, later) =
    ap (list_from Between step) is
    ∙ gaps-read Between (λ now other. refl) step gaps (Word word ∷ rest) are
    ∙ reads Between step (Word word) rest
    ∙ ap (onto_steps step) (items-read items rest (plain_step (service_of_word word)) later)
items-read (Group rules ∷ items) tokens step (gaps, group, rest, are, writes, is, later) =
    ap (list_from Between step) (is ∙ append_assoc gaps group rest)
    ∙ gaps-read Between (λ now other. refl) step gaps (group ++ rest) are
    ∙ group-read rules group rest step writes
    ∙ items-read items rest (ruled_by rules step) later

list-read : (items : List Item) (tokens : List Token) (step : SwitchStep) (steps : List SwitchStep) → Writes items tokens → steps_of items ≡ Some steps → list_from First step tokens ≡ Some steps
list-read [] tokens step steps writes is = cc
list-read (Group rules ∷ items) tokens step steps writes is = cc
list-read (Service word ∷ items) tokens step steps (gaps, rest, are, falls, later) is =
    ap (list_from First step) falls
    ∙ gaps-read First (λ now other. refl) step gaps (Word word ∷ rest) are
    ∙ reads First step (Word word) rest
    ∙ items-read items rest (plain_step (service_of_word word)) later
    ∙ is

pub written_is_read : (text : List ℕ) (steps : List SwitchStep) → WritesSteps text steps → spelled_list text ≡ Some steps
written_is_read text steps (items, writes, is) = list-read items (tokens_of text) (plain_step Other) steps writes is
