-- What follows for answers from what a job promises.
use Rattle.std.proofs.Common.{◌≡◌, ◌<◌, ℕ, Bool, true, false, cond, List, [], Option, Some, None, get_or, ltb, slice_get, arith, refl, subst}
use Rattle.std.proofs.lemmas.Option.{slice_get-get_or, slice_get_within}
use Rattle.mpx_comm.specs.declared.comm.Comm.{Comm}
use Rattle.mpx_name.specs.Name.{Name}
use Rattle.mpx_node.specs.declared.finished.Finished.{Finished}
use Rattle.mpx_node.specs.Nodes.{NodeView, fresh, posted_by, start_node}
use Rattle.mpx_num.specs.declared.own.Operation.{Operation}
use Rattle.mpx_ranks.specs.Ranks.{Gives, HaveRun, world_in}
use Rattle.mpx_world.specs.Soundness.{IsValue}
use Rattle.process_tests.specs.Answers.{AreValues, HadNext}

abbrev pub gives_next : Gives (Option Finished)
gives_next operations world before after had answer = HadNext world before had answer

-- a rank has posted nothing when it begins
none_posted : (is_rank : Bool) → posted_by (cond is_rank (Some fresh) None) ≡ 0
none_posted true = refl
none_posted false = refl

pub values_of : (ranks : ℕ) (answers : List (Option Finished)) (nodes : List NodeView) → HaveRun gives_next [] ranks ranks answers nodes → AreValues ranks answers nodes
values_of ranks answers nodes run = record {
  one = run.one;
  each = λ rank finished there.
      let within = slice_get_within answers rank (Some finished) there in
      let lt : rank < ranks = omega (arith, within, run.answered) in
      let first = start_node 0 ranks ranks in
      let node = slice_get-get_or nodes rank first (omega (arith, lt, run.processes)) in
      let answer = run.each rank (Some finished) (get_or nodes rank first) there node in
      subst (λ (call : ℕ). IsValue (world_in [] ranks ranks nodes run.one) rank [] call finished) (none_posted (ltb rank ranks)) (answer.values [] _ finished answer.gave);
}
