-- What a draft comes to that a process posts.
use Rattle.std.specs.Prelude.{List, Result, Ok, Err}
use Rattle.mpx_num.specs.declared.own.Operation.{Operation}
use Rattle.mpx_name.specs.Name.{Name}
use Rattle.mpx_post.specs.Posts.{Given}
use Rattle.mpx_post.specs.declared.draft.Draft.{Draft}
use Rattle.mpx_post.specs.declared.draft.PostError.{PostError}
use Rattle.mpx_node.specs.Nodes.{checked_on}
use Rattle.mpx_world.specs.Worlds.{ProcessView, makes}

-- the post is made, where the draft isn't refused
abbrev pub makes_checked : Name → Result Given PostError → ProcessView → ProcessView
makes_checked name (Ok given) v = makes name given v
makes_checked name (Err refusal) v = v

-- so a process posts a draft
abbrev pub posts : List Operation → Name → Draft → ProcessView → ProcessView
posts ops name draft v = makes_checked name (checked_on ops v.node name draft) v
