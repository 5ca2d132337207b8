use Rattle.std.proofs.Common.{rules, ◌≡◌, ℕ, ◌+◌, ◌≤◌, List, length, map, slice_get, Option, None, Some, arith}
use Rattle.std.specs.Option.{option_and_then}
use Rattle.kb_semantics.specs.Ways.{handler_at, nearest_handler}
use Rattle.kb_frames.specs.declared.frame.SymFrame.{SymFrame}
use Rattle.kb_frames.specs.Calls.{frames_of}
use Rattle.kb_ways.specs.Ways.{stands_at}
use Rattle.kb_ways.proofs.HandlerLaws.{as_many, nearest_here, nearest_none, nearest_on}
use Rattle.kb_ways.proofs.throwing.nearest_handler.Goals as goal

pub returns-in-Some : goal.returns-in-Some
returns-in-Some c =
    let frames : List SymFrame = frames_of c.args.state.now.stage in
    let here : option_and_then (λ (frame : SymFrame). handler_at c.args.world.now frame.method frame.at c.args.kind.now) (slice_get frames c.loop-depth.depth) ≡ Some c.in-Some.target = search rules in
    nearest_here c.args.world.now c.args.kind.now frames c.loop-depth.depth c.in-Some.target (nearest_handler c.args.world.now c.args.kind.now (map stands_at frames)) c.loop-depth.invariant here

pub loop-depth-preserved : goal.loop-depth-preserved
loop-depth-preserved c =
    let frames : List SymFrame = frames_of c.args.state.now.stage in
    let here : option_and_then (λ (frame : SymFrame). handler_at c.args.world.now frame.method frame.at c.args.kind.now) (slice_get frames c.loop-depth.depth) ≡ None = search rules in
    nearest_on c.args.world.now c.args.kind.now frames c.loop-depth.depth (nearest_handler c.args.world.now c.args.kind.now (map stands_at frames)) c.loop-depth.invariant here

pub returns : goal.returns
returns c =
    let frames : List SymFrame = frames_of c.args.state.now.stage in
    let all : length frames ≤ c.loop-depth.depth = omega (arith, as_many c.args.state.now.stage) in
    nearest_none c.args.world.now c.args.kind.now frames c.loop-depth.depth (nearest_handler c.args.world.now c.args.kind.now (map stands_at frames)) c.loop-depth.invariant all

pub returns-in_default : goal.returns-in_default
returns-in_default c =
    let frames : List SymFrame = frames_of c.args.state.now.stage in
    let nearest : Option (ℕ × ℕ) = nearest_handler c.args.world.now c.args.kind.now (map stands_at frames) in
    let here : option_and_then (λ (frame : SymFrame). handler_at c.args.world.now frame.method frame.at c.args.kind.now) (slice_get frames c.loop-depth.depth) ≡ None = search rules in
    let all : length frames ≤ c.loop-depth.depth + 1 = omega (arith, as_many c.args.state.now.stage) in
    nearest_none c.args.world.now c.args.kind.now frames (c.loop-depth.depth + 1) nearest
    (nearest_on c.args.world.now c.args.kind.now frames c.loop-depth.depth nearest c.loop-depth.invariant here) all
