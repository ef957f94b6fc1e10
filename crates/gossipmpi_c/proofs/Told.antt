-- What a run comes to, of what a call does.
use Rattle.std.proofs.Common.{◌≡◌, ℕ, List, [], Some, Result, Ok, false, subst}
use Rattle.mpx_num.specs.declared.own.Operation.{Operation}
use Rattle.mpx_run.specs.declared.streams.WriteFault.{WriteFault}
use Rattle.mpx_program.specs.Jobs.{AsFounded, DoesJobWith, Tells}
use Rattle.mpx_words.specs.declared.invocation.Invocation.{Invocation}
use Rattle.gossipmpi_c.specs.Answers.{own_operations}
use Rattle.gossipmpi_c.specs.Runs.{DoesCall, is_unexplained}

-- a job by the programs' own operations, of which all is said
pub of_job : (ops : List Operation) (call : Invocation) (script left first printed before said : List ℕ) (told : Result (Unit {0}) WriteFault) (status : ℕ) → ops ≡ own_operations → first ≡ [] → before ≡ [] → told ≡ Ok tt
    → is_unexplained said ≡ false → DoesJobWith AsFounded ops call (Some script) (Some left) (Some first) (Some printed) status (Tells (Some before) (Some said) told) → DoesCall call script printed said status
of_job ops call script left first printed before said told status own empty silent whole explained does = record {
  left = left;
  does = subst (λ t. DoesJobWith AsFounded own_operations call (Some script) (Some left) (Some []) (Some printed) status (Tells (Some []) (Some said) t)) whole
      (subst (λ b. DoesJobWith AsFounded own_operations call (Some script) (Some left) (Some []) (Some printed) status (Tells (Some b) (Some said) told)) silent
      (subst (λ f. DoesJobWith AsFounded own_operations call (Some script) (Some left) (Some f) (Some printed) status (Tells (Some before) (Some said) told)) empty
      (subst (λ (os : List Operation). DoesJobWith AsFounded os call (Some script) (Some left) (Some first) (Some printed) status (Tells (Some before) (Some said) told)) own does)));
  explained = explained;
}
