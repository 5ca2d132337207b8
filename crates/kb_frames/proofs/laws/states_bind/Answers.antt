use Rattle.kb_frames.proofs.BindLaws.{bound_state, stands_so_far}
use Rattle.kb_frames.proofs.laws.states_bind.Goals as goal

pub returns : goal.returns
returns c = record {
  state = λ world state number origin choice sound is_open speaks. bound_state world state sound number origin is_open choice speaks;
  stands = λ s state number origin choice input c sound is_open speaks stands. stands_so_far s state sound number origin is_open choice speaks input c stands;
}
