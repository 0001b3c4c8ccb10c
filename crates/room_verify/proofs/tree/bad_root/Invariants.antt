use Rattle.std.{proofs.Common.{◌≡◌, ◌++◌, filter, drop, option_to_list}, specs.Option.option_copied}
use Rattle.room_rows.specs.{Content.is_root, Sound.bad_root}
use Rattle.room_verify.proofs.tree.bad_root.Given as goal

-- the one so far, and then those of what is left
abbrev pub invariant-nodes : goal.invariant-nodes
invariant-nodes l =
    bad_root (option_to_list (option_copied l.root) ++ filter is_root (drop l.node-index l.nodes))
    ≡ bad_root (filter is_root l.nodes)
