-- What an instruction on ints must be told before it can be carried out: whether a branch is taken, which key of a switch an int
-- is, or whether a divisor is 0 (JVMS 8 section 6.5: if<cond>, if_icmp<cond>, tableswitch, lookupswitch, idiv and irem). Where
-- nothing is to be told there is the only way on.
use Rattle.std.specs.Prelude.{List, [], ◌∷◌, filter, not, Option, Some, None}
use Rattle.kb_terms.specs.declared.node.Node.{Node}
use Rattle.kb_terms.specs.Terms.{IsTerm}
use Rattle.kb_picture.specs.declared.choice.Choice.{Choice}
use Rattle.kb_picture.specs.declared.choice.Choice.TheVariants.{Zero, NotZero}
use Rattle.kb_frames.specs.State.{State}
use Rattle.kb_ways.specs.declared.condition.Condition.{Condition}
use Rattle.kb_ways.specs.Advancing.{only}
use Rattle.kb_ways.specs.Asked.{is_refuted}
use Rattle.kb_ways.specs.Needs.{IsSide}
use Rattle.kb_stepint.specs.declared.questions.IntQuestion.{IntQuestion}
use Rattle.kb_stepint.specs.declared.questions.IntQuestion.TheVariants as questions
use Rattle.kb_stepint.specs.Choices.{both_ways, branch_conditions, divisor_conditions, key_conditions, keys_from}
use Rattle.kb_stepint.specs.Keys.{keys_of}

-- the alternatives of a question, whatever is decided
abbrev pub alternatives : IntQuestion → List Choice
alternatives (questions.Branch cond left right) = both_ways
alternatives (questions.Key x keys) = keys_from 0 (keys_of keys)
alternatives (questions.Divisor x) = Zero ∷ NotZero ∷ []

-- what each of them asks for
abbrev pub asks_for : IntQuestion → Choice → List Condition
asks_for (questions.Branch cond left right) choice = branch_conditions cond left right choice
asks_for (questions.Key x keys) choice = key_conditions x (keys_of keys) choice
asks_for (questions.Divisor x) choice = divisor_conditions x choice

-- the alternatives that ask for nothing that is decided as false
abbrev pub offered_by : State → Option IntQuestion → List Choice
offered_by state None = only
offered_by state (Some question) = filter (λ choice. not (is_refuted state (asks_for question choice))) (alternatives question)

-- the conditions that an alternative asks for
abbrev pub conditions_by : Option IntQuestion → Choice → List Condition
conditions_by None choice = []
conditions_by (Some question) choice = asks_for question choice

-- the ints of the question are terms of the pool
abbrev pub HasTermsOf : List Node → IntQuestion → Type 0
HasTermsOf nodes (questions.Branch cond left right) = IsSide nodes left × IsSide nodes right
HasTermsOf nodes (questions.Key x keys) = IsTerm nodes x
HasTermsOf nodes (questions.Divisor x) = IsTerm nodes x
