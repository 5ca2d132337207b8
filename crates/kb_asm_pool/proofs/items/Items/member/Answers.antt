use Rattle.std.proofs.Common.{◌≡◌, ℕ, List, Some, slice_get, sym, ap, ◌∙◌, subst}
use Rattle.kb_asm_pool.specs.Says.{Says, text, class, name_type, member, added}
use Rattle.kb_asm_pool.specs.Items.{said}
use Rattle.kb_asm_pool.specs.declared.items.Item.TheVariants as items
use Rattle.kb_asm_pool.proofs.ItemLaws.{on_ok, said_pair, said_member}
use Rattle.kb_asm_pool.proofs.items.Items.member.Goals as goal

pub add-requires-2 : goal.add-requires-2
add-requires-2 c =
    let moved = λ (p : ℕ) (bytes : List ℕ) (e : slice_get c.add_text-2.new.self.texts p ≡ Some bytes). subst (λ (t : List (List ℕ)). slice_get t p ≡ Some bytes) (sym c.in_ok-add.ensures.texts) e in
    let owner = c.add_text-2.ensures.keeps c.in_ok-class.class c.args.class.now (c.add_text.ensures.keeps c.in_ok-class.class c.args.class.now c.in_ok-class.ensures.place) in
    let name = c.add_text-2.ensures.keeps c.in_ok-name.name c.args.name.now c.in_ok-name.ensures.place in (
      (c.args.class.now, moved c.in_ok-class.class c.args.class.now owner),
      (c.args.name.now, moved c.in_ok-name.name c.args.name.now name),
      (c.args.kind.now, moved c.in_ok-kind.kind c.args.kind.now c.in_ok-kind.ensures.place),
    )

pub returns-clause-says : goal.returns-clause-says
returns-clause-says c =
    let owner = c.add_text-2.ensures.keeps c.in_ok-class.class c.args.class.now (c.add_text.ensures.keeps c.in_ok-class.class c.args.class.now c.in_ok-class.ensures.place) in
    let name = c.add_text-2.ensures.keeps c.in_ok-name.name c.args.name.now c.in_ok-name.ensures.place in
    let kind = c.in_ok-kind.ensures.place in
    let texts = c.in_ok-add.ensures.texts in
    let pair = said_pair c.add_text-2.new.self.texts c.in_ok-name.name c.in_ok-kind.kind c.args.name.now c.args.kind.now name kind in
    let whole = said_member c.add_text-2.new.self.texts c.args.of c.in_ok-class.class c.in_ok-name.name c.in_ok-kind.kind c.args.class.now c.args.name.now c.args.kind.now owner name kind in
    let before : c.add.new.self.says ≡ added (added (added (added (added c.args.self.now.says (text c.args.class.now)) (class c.args.class.now)) (text c.args.name.now)) (text c.args.kind.now)) (name_type c.args.name.now c.args.kind.now) =
    c.in_ok-add.ensures.says ∙ ap (added c.add_text-2.new.self.says) pair
    ∙ ap (λ (s : List Says). added s (name_type c.args.name.now c.args.kind.now))
    (c.in_ok-kind.ensures.says ∙ ap (λ (s : List Says). added s (text c.args.kind.now)) (c.in_ok-name.ensures.says ∙ ap (λ (s : List Says). added s (text c.args.name.now)) c.in_ok-class.ensures.says)) in
    on_ok c.add-2.result
    (λ e. e ∙ ap (added c.add.new.self.says) (ap (λ (t : List (List ℕ)). said t (items.Member c.args.of c.in_ok-class.class c.in_ok-name.name c.in_ok-kind.kind)) texts ∙ whole)
    ∙ ap (λ (s : List Says). added s (member c.args.of c.args.class.now c.args.name.now c.args.kind.now)) before)
    c.add-2.ensures.says
