use Rattle.std.proofs.Common.{◌≡◌, ◌≤◌, ◌∙◌, sym, subst, arith, get_or, pos, None}
use Rattle.kb_terms.specs.declared.op.Op.TheVariants.{Add}
use Rattle.kb_terms.specs.declared.listing.Operand.TheVariants.{Const}
use Rattle.kb_terms.specs.declared.listing.Term.{Term}
use Rattle.kb_chain.proofs.CnfLaws.{AllWithin_more}
use Rattle.kb_blast.specs.Conditions.{built_term}
use Rattle.kb_blast.specs.Listing.{literals_of}
use Rattle.kb_blast.proofs.Loops.{terms_next, terms_end, words-next}
use Rattle.kb_blast.proofs.terms.term_words.Goals as goal

abbrev none : Term
none = record { op = Add; left = Const (pos 0); right = None }

pub built_term-requires-clause-vars : goal.built_term-requires-clause-vars
built_term-requires-clause-vars c =
    AllWithin_more c.args.builder.now.vars c.loop-rest.builder.vars (literals_of c.args.vars.now.entries) c.loop-rest.invariant.grows c.requires.within

pub loop-rest-preserved : goal.loop-rest-preserved
loop-rest-preserved c =
    record {
      built = terms_next c.args.vars.now.entries c.loop-rest.words.items c.push.new.self.items c.loop-rest.rest.now none c.in_ok-word.word c.loop-rest.builder c.built_term.new.builder
          c.in-len1-up.len_at_least
          (subst (λ ws. built_term c.args.vars.now.entries ws (get_or c.loop-rest.rest.now 0 none) c.loop-rest.builder ≡ (c.in_ok-word.word, c.built_term.new.builder)) c.deref.ensures.value c.in_ok-word.ensures.built)
          c.in_ok-push.ensures.items
          ∙ c.loop-rest.invariant.built;
      within = words-next c.loop-rest.builder.vars c.built_term.new.builder.vars c.loop-rest.words.items c.push.new.self.items c.in_ok-word.word c.in_ok-word.ensures.grows
          c.loop-rest.invariant.within c.in_ok-word.ensures.within c.in_ok-push.ensures.items;
      grows = let a = c.loop-rest.invariant.grows in let b : c.loop-rest.builder.vars ≤ c.built_term.new.builder.vars = c.in_ok-word.ensures.grows in omega arith;
    }

pub returns-clause-built : goal.returns-clause-built
returns-clause-built c =
    sym c.loop-rest.invariant.built ∙ terms_end c.args.vars.now.entries c.loop-rest.words.items c.loop-rest.rest.now c.loop-rest.builder c.in_default.len_below
