use Rattle.std.proofs.Common.{◌≡◌, ℕ, List, Some, sym, ap, subst, ◌∙◌}
use Rattle.std.proofs.lemmas.Option.{same_Some, none-some}
use Rattle.kb_class.specs.Class.{Class}
use Rattle.kb_numbers.specs.declared.pairs.Pair.{Pair}
use Rattle.kb_numbers.specs.Members.{method_number}
use Rattle.kb_numbers.specs.Numbers.{AreNumbered}
use Rattle.kb_classes.specs.World.{World}
use Rattle.kb_link.specs.Tables.{IsNumberOf}
use Rattle.kb_link.proofs.ByNumbers.{number_by_pair, pair_of_number}
use Rattle.kb_link.proofs.linked.Linked.paired.Goals as goal

pub pair_of-requires : goal.pair_of-requires
pair_of-requires c =
    let are : AreNumbered c.self.inside.classes c.get-numbers.result.now = subst (AreNumbered c.self.inside.classes) (sym c.get-numbers.ensures) c.self.invariant.3 in
    are.few

pub returns-in_err-pair-clause-whole : goal.returns-in_err-pair-clause-whole
returns-in_err-pair-clause-whole c = λ id is.
    let are : AreNumbered c.self.inside.classes c.get-numbers.result.now = subst (AreNumbered c.self.inside.classes) (sym c.get-numbers.ensures) c.self.invariant.3 in
    let classes : c.self.inside.classes ≡ c.args.self.now.classes = ap (λ (w : World). w.classes) c.self.view_is in
    let here : IsNumberOf c.self.inside.classes c.args.class c.args.target.now.name c.args.target.now.kind id =
    subst (λ (cs : List Class). IsNumberOf cs c.args.class c.args.target.now.name c.args.target.now.kind id) (sym classes) is in
    let pair = pair_of_number c.self.inside.classes c.get-numbers.result.now are c.self.invariant.0.loaded.methods c.args.class c.args.target.now.name c.args.target.now.kind id here in
    absurd (none-some pair.0 (c.in_err-pair.ensures.whole pair.0 (pair.1.named, pair.3)))

pub returns-in_err-number-clause-whole : goal.returns-in_err-number-clause-whole
returns-in_err-number-clause-whole c = λ id is.
    let are : AreNumbered c.self.inside.classes c.get-numbers.result.now = subst (AreNumbered c.self.inside.classes) (sym c.get-numbers.ensures) c.self.invariant.3 in
    let classes : c.self.inside.classes ≡ c.args.self.now.classes = ap (λ (w : World). w.classes) c.self.view_is in
    let here : IsNumberOf c.self.inside.classes c.args.class c.args.target.now.name c.args.target.now.kind id =
    subst (λ (cs : List Class). IsNumberOf cs c.args.class c.args.target.now.name c.args.target.now.kind id) (sym classes) is in
    let pair = pair_of_number c.self.inside.classes c.get-numbers.result.now are c.self.invariant.0.loaded.methods c.args.class c.args.target.now.name c.args.target.now.kind id here in
    let same : c.in_ok-pair.pair ≡ pair.0 = same_Some c.in_ok-pair.pair pair.0 (c.in_ok-pair.ensures.whole pair.0 (pair.1.named, pair.3)) in
    absurd (none-some id (c.in_err-number.ensures ∙ ap (λ (p : Pair). method_number c.get-numbers.result.now.classes.items c.args.class p) same ∙ pair.2))

pub returns-clause-found : goal.returns-clause-found
returns-clause-found c =
    let are : AreNumbered c.self.inside.classes c.get-numbers.result.now = subst (AreNumbered c.self.inside.classes) (sym c.get-numbers.ensures) c.self.invariant.3 in
    let classes : c.self.inside.classes ≡ c.args.self.now.classes = ap (λ (w : World). w.classes) c.self.view_is in
    let found =
    number_by_pair c.self.inside.classes c.get-numbers.result.now are c.self.invariant.0.loaded.methods c.args.class c.in_ok-pair.pair c.args.target.now.name c.args.target.now.kind c.in_ok-number.number c.in_ok-pair.ensures.found
    (sym c.in_ok-number.ensures) in
    subst (λ (cs : List Class). IsNumberOf cs c.args.class c.args.target.now.name c.args.target.now.kind c.in_ok-number.number) classes found

pub returns-clause-whole : goal.returns-clause-whole
returns-clause-whole c = λ id is.
    let are : AreNumbered c.self.inside.classes c.get-numbers.result.now = subst (AreNumbered c.self.inside.classes) (sym c.get-numbers.ensures) c.self.invariant.3 in
    let classes : c.self.inside.classes ≡ c.args.self.now.classes = ap (λ (w : World). w.classes) c.self.view_is in
    let here : IsNumberOf c.self.inside.classes c.args.class c.args.target.now.name c.args.target.now.kind id =
    subst (λ (cs : List Class). IsNumberOf cs c.args.class c.args.target.now.name c.args.target.now.kind id) (sym classes) is in
    let pair = pair_of_number c.self.inside.classes c.get-numbers.result.now are c.self.invariant.0.loaded.methods c.args.class c.args.target.now.name c.args.target.now.kind id here in
    let same : c.in_ok-pair.pair ≡ pair.0 = same_Some c.in_ok-pair.pair pair.0 (c.in_ok-pair.ensures.whole pair.0 (pair.1.named, pair.3)) in
    let number : c.in_ok-number.number ≡ id =
    same_Some c.in_ok-number.number id (c.in_ok-number.ensures ∙ ap (λ (p : Pair). method_number c.get-numbers.result.now.classes.items c.args.class p) same ∙ pair.2) in
    ap (λ (n : ℕ). Some (record { 0 = n })) number
