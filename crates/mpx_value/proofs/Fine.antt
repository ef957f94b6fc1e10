-- A call that gives nothing has a row that is fine.
use Rattle.std.proofs.Common.{◌≡◌, ℕ, List, refl}
use Rattle.mpx_num.specs.declared.own.Operation.{Operation}
use Rattle.mpx_match.specs.declared.faults.Verdict.{Verdict}
use Rattle.mpx_match.specs.declared.faults.Verdict.TheVariants as V
use Rattle.mpx_match.specs.Verdicts.{verdict}
use Rattle.mpx_name.specs.Name.{Name}
use Rattle.mpx_birth.specs.Births.{BirthView}
use Rattle.mpx_post.specs.Rows.{RowView}
use Rattle.mpx_post.specs.Agreement.{first_of}
use Rattle.mpx_value.specs.declared.outcomes.Outcome.{Outcome}
use Rattle.mpx_value.specs.declared.outcomes.Outcome.TheVariants.{Nothing}
use Rattle.mpx_value.specs.Values.{given_as, or_fault, value}

by_verdict : (v : Verdict) (given : Outcome) → or_fault v given ≡ Nothing → v ≡ V.Fine
by_verdict V.Fine given e = refl
by_verdict (V.Fault fault) given e = cc e

pub nothing-fine : (ops : List Operation) (birth : BirthView) (row : RowView) (name : Name) (call rank : ℕ) → value ops birth row name call rank ≡ Nothing → verdict ops birth.topology row ≡ V.Fine
unfolding value
nothing-fine ops birth row name call rank e = by_verdict (verdict ops birth.topology row) (given_as (first_of row).kind ops birth row name call rank) e
