use Rattle.std.proofs.Common.{◌≡◌, ◌≤◌, ◌∙◌, length, arith, rules}
use Rattle.nsc_index.specs.Fronts.{id_rows, name_rows, raw_id, raw_mark}
use Rattle.nsc_index.specs.Indexes.{rows_from}
use Rattle.nsc_index.specs.Numbers.{place_of_number}
use Rattle.nsc_base.specs.Text.{part}
use Rattle.std.specs.Option.{option_map}
use Rattle.nsc_index.proofs.LineRows.{rows_end}
use Rattle.nsc_index.proofs.NumberedLines.{few_rows, one_at_most}
use Rattle.nsc_index.proofs.users.UserIndex.of.Goals as goal

pub of-requires : goal.of-requires
of-requires c =
    let text = c.args.text.now in
    let last : c.loop-line.from ≡ length text = search rules in
    let are = rows_end (name_rows text) text c.loop-line.from c.loop-line.names.items (rows_from (name_rows text) text 0) last c.loop-line.invariant.names in
    let few : length c.loop-line.names.items ≤ length text = few_rows (name_rows text) (λ line. one_at_most (option_map (place_of_number line) (raw_mark (part text line)))) text c.loop-line.names.items are in
    omega arith

pub of-requires-2 : goal.of-requires-2
of-requires-2 c =
    let text = c.args.text.now in
    let last : c.loop-line.from ≡ length text = search rules in
    let are = rows_end (id_rows text) text c.loop-line.from c.loop-line.ids.items (rows_from (id_rows text) text 0) last c.loop-line.invariant.ids in
    let few : length c.loop-line.ids.items ≤ length text = few_rows (id_rows text) (λ line. one_at_most (option_map (place_of_number line) (raw_id (part text line)))) text c.loop-line.ids.items are in
    omega arith

pub returns : goal.returns
returns c =
    let text = c.args.text.now in
    let last : c.loop-line.from ≡ length text = search rules in
    record {
      names = c.in_ok-of.ensures ∙ rows_end (name_rows text) text c.loop-line.from c.loop-line.names.items (rows_from (name_rows text) text 0) last c.loop-line.invariant.names;
      ids = c.in_ok-of-2.ensures ∙ rows_end (id_rows text) text c.loop-line.from c.loop-line.ids.items (rows_from (id_rows text) text 0) last c.loop-line.invariant.ids;
      signs = c.in_ok-sorted_signs.ensures;
    }
