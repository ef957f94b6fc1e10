use Rattle.std.proofs.Common.{refl, sym, ap, ◌∙◌}
use Rattle.mpx_birth.specs.Births.{rank_in}
use Rattle.mpx_post.specs.Drafts.{at}
use Rattle.mpx_eval.specs.Contexts.{ContextView, count_in, freed_in}
use Rattle.mpx_eval.proofs.Contexts.{checked_stranger}
use Rattle.mpx_eval.proofs.context.Context.post.Goals as goal

pub returns-in_default-clause-posts : goal.returns-in_default-clause-posts
returns-in_default-clause-posts g c = λ other. (checked_stranger _ c.args.self.now.birth c.args.me (at c.args.name.now (count_in c.args.self.now c.args.me) (freed_in c.args.self.now c.args.me)) c.args.draft (ap (λ (v : ContextView). rank_in c.args.me v.birth.members) (sym c.self.view_is) ∙ sym c.in_default.ensures), refl)
