-- The nodes that words hold, as they are read back. Words that hold nodes hold these (`nodes_in`), and no others.
use Rattle.std.specs.Prelude.{ℕ, zero, suc, ◌+◌, ◌/◌, ◌%◌, ◌==◌, nat_lt, if◌then◌else◌, List, [], ◌∷◌, length, map, slice_index}
use Rattle.std.specs.List.{range_with_len}
use Rattle.byteorder.specs.Endian.{little_bytes}
use Rattle.nsc_base.specs.Nodes.{words_for}
use Rattle.nsc_words.specs.declared.layout.Layout.{Layout}
use Rattle.nsc_words.specs.declared.node.Node.{Node}
use Rattle.nsc_words.specs.declared.node.Placed.{Placed}
use Rattle.nsc_words.specs.Laid.{words_in}
use Rattle.nsc_words.specs.Layout.{arena_start}

-- a byte of the words from a place on, and `count` bytes
unfoldable pub byte_in : List ℕ → ℕ → ℕ → ℕ
byte_in words place i = slice_index (little_bytes 8 (slice_index words (place + i / 8))) (i % 8)

abbrev pub bytes_in : List ℕ → ℕ → ℕ → List ℕ
bytes_in words place count = map (byte_in words place) (range_with_len 0 count)

-- the node that begins at a place, by the two lengths in its words
abbrev pub node_by : List ℕ → ℕ → ℕ → ℕ → Node
node_by words place key reply = record {
  number = slice_index words (place + 0);
  kind = slice_index words (place + 1) / 65536;
  key = bytes_in words (place + 8) key;
  reply = bytes_in words (place + 8 + words_for key) reply;
  version = slice_index words (place + 3);
  timeout = slice_index words (place + 4);
  reloads = slice_index words (place + 5);
  not_found = slice_index words (place + 2) % 2 == 1;
}

abbrev pub placed_in : List ℕ → ℕ → Placed
placed_in words place = record {
  place = place;
  node = node_by words place (slice_index words (place + 1) % 65536) (slice_index words (place + 2) / 2);
  usable = slice_index words (place + 6) == 1;
}

-- the nodes from a place on up to another, before which these stand, the newest first; at most `count` more
abbrev pub nodes_from : ℕ → List ℕ → ℕ → ℕ → List Placed → List Placed
nodes_from zero words from end before = before
nodes_from (suc count) words from end before = if nat_lt from end then nodes_from count words (from + words_in (placed_in words from).node) end (placed_in words from ∷ before) else before

unfoldable pub nodes_in : List ℕ → Layout → List Placed
nodes_in words layout = nodes_from (length words) words (arena_start layout) (slice_index words 3) []
