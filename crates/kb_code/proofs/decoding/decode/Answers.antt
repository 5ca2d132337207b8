use Rattle.kb_code.proofs.Answering.{decoded_is_listed, decoded_is_laid_out, listed_is_decoded, refused_is_first}
use Rattle.kb_code.proofs.decoding.decode.Goals as goal

pub returns-clause-found : goal.returns-clause-found
returns-clause-found c = decoded_is_listed c.listing_of.result c.args.code.now c.args.handlers.now c.listing_of.ensures

pub returns-clause-only : goal.returns-clause-only
returns-clause-only c = listed_is_decoded c.listing_of.result c.args.code.now c.args.handlers.now c.listing_of.ensures

pub returns-clause-laid_out : goal.returns-clause-laid_out
returns-clause-laid_out c = decoded_is_laid_out c.listing_of.result c.args.code.now c.args.handlers.now c.listing_of.ensures

pub returns-clause-refused : goal.returns-clause-refused
returns-clause-refused c = refused_is_first c.listing_of.result c.args.code.now c.args.handlers.now c.listing_of.ensures
