use Rattle.std.proofs.Common.{◌+◌, map}
use Rattle.mpx_num.specs.Own.{operation_of}
use Rattle.mpx_ranks.specs.Members.{setup_of}
use Rattle.mpx_ranks.specs.Ranks.{HasGivenUp}
use Rattle.mpx_ranks.proofs.job.ranks.Given as goal

-- so many ranks, the operations that are lent, and no plan
abbrev pub ghosts-run_by-N-Named : goal.ghosts-run_by-N-Named
ghosts-run_by-N-Named g a =
    let ops = (map (λ b. let o = (g.dyn-1.0.entry b.vtable).1 in operation_of (o.word_bytes b.value) (o.fits_type b.value) (o.combination b.value)) a.ops.now.list.items) in
    record { setup = setup_of ops a.ranks (a.ranks + a.relays) }

-- a part for each thread
abbrev pub ghosts-run_by-K-Ledger : goal.ghosts-run_by-K-Ledger
ghosts-run_by-K-Ledger g a = record { name = a.blank.name; parts = a.blank.parts }

-- those ranks have given up that do
abbrev pub ghosts-run_by-K-Job : goal.ghosts-run_by-K-Job
ghosts-run_by-K-Job g a =
    let ops = (map (λ b. let o = (g.dyn-1.0.entry b.vtable).1 in operation_of (o.word_bytes b.value) (o.fits_type b.value) (o.combination b.value)) a.ops.now.list.items) in
    record { gave_up = HasGivenUp (g.P.Program.gives a.program.now) (g.P.Program.has_given_up a.program.now) (setup_of ops a.ranks (a.ranks + a.relays)) }
