use Rattle.std.proofs.Common.{◌≡◌, ◌++◌, drop, map}
use Rattle.json.specs.Tree.{items_tokens}
use Rattle.serde_json.specs.{View.items_of, Written.items_outline}
use Rattle.http_message.specs.{Bodies.{child_data, names_data}, Form.data_tokens}
use Rattle.http_message.proofs.data.push_names.Given as goal

abbrev pub invariant-loop-child : goal.invariant-loop-child
invariant-loop-child l =
    (l.out.before ≡ l.fn.out.before)
    × (l.out.tokens
    ++ items_tokens (items_outline (items_of (map child_data (drop l.child-index l.children))))
    ≡ l.fn.out.tokens ++ data_tokens (names_data l.children))
