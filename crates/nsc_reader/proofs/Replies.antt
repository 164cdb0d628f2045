-- The loads of a node that answers: its STATE, its SIZE, its NUMBER, its VERSION, and the words of its reply.
use Rattle.std.proofs.Common.{All, ◌≡◌, ◌∙◌, ℕ, ◌+◌, ◌-◌, ◌*◌, ◌%◌, ◌<◌, ◌≤◌, Bool, true, false, eqb, min, List, [], ◌∷◌, ◌++◌, length, take, Some, append_assoc, refl, sym, ap, subst, inr, arith}
use Rattle.std.proofs.Math.Seq.{take-append-add}
use Rattle.std.proofs.lemmas.List.{take_all, length-append, length-take, length-take-le, take-append-le}
use borrow.Rule.Slice.PartMut.{put_mid, post_of}
use Rattle.byteorder.specs.Endian.{little_bytes}
use Rattle.byteorder.specs.Numbers.{length-bytes_low_first}
use Rattle.nsc_base.specs.Nodes.{words_for}
use Rattle.nsc_words.specs.declared.layout.Layout.{Layout}
use Rattle.nsc_words.specs.Layout.{table_words}
use Rattle.nsc_words.specs.Packing.{size_word}
use Rattle.nsc_words.specs.Words.{word_of}
use Rattle.nsc_words.proofs.Lows.{take_low}
use Rattle.nsc_arena.proofs.Bytes.{one_more_word}
use Rattle.nsc_model.specs.Entry.{Entry, kept_limit}
use Rattle.nsc_model.specs.History.{IsLive, IsPrefix}
use Rattle.nsc_model.specs.declared.record.Record.{Record}
use Rattle.nsc_model.proofs.Beginnings.{prefix_all}
use Rattle.nsc_rule.specs.declared.view.Search.{Search}
use Rattle.nsc_rule.specs.Pass.{Pass}
use Rattle.nsc_rule.specs.Searches.{IsSteady}
use Rattle.nsc_reader.specs.declared.stage.Stage.TheVariants.{State}
use Rattle.nsc_reader.specs.Stages.{AtLast, AtNext, AtNumber, AtReply, AtSize, AtState, AtVersion, Comes, Keeps, Tells, key_words, reply_in}
use Rattle.nsc_model.specs.declared.in_place.InPlace.TheVariants.{Hit, NoEntry}
use Rattle.nsc_reader.proofs.Tellings.{Read, fixed_at, keeps_at, node_at, begun_at, stays, steady_before}

-- ---- STATE

pub usable_at : (layout : Layout) (place : ℕ) (seen : List Record) (known : ℕ) (gone : Bool) (p : Pass) → IsPrefix p.seen seen → p.searching.known ≤ known → AtState layout place p
    → Tells (stays seen known gone p) (λ e. IsLive seen e) → AtSize layout place (stays seen known gone p)
usable_at layout place seen known gone p more later at live = record {
  node = node_at layout place seen known gone p more later at.node;
  room = at.room;
  answers = λ steady e on. at.answers (steady_before seen known gone p later at.node.begun steady) e on;
  live = live;
}

-- the entry was live then, as a load of STATE told
pub live_at : (p new : Pass) (gone : Bool) → new.table ≡ p.table → new.searching ≡ record p.searching { steps = p.searching.steps + 1; known = new.searching.known; gone = gone } → (IsSteady new.searching → (e : Entry) → p.searching.on ≡ Some e → IsLive new.seen e) → Tells (stays new.seen new.searching.known gone p) (λ e. IsLive new.seen e)
live_at p new gone table is live steady e on = live (subst (λ (w : Search). IsSteady w) (sym is) steady) e on

pub ended_at : (layout : Layout) (place : ℕ) (seen : List Record) (known : ℕ) (gone : Bool) (p : Pass) → IsPrefix p.seen seen → p.searching.known ≤ known → AtState layout place p → gone ≡ true → AtNext layout place (stays seen known gone p)
ended_at layout place seen known gone p more later at is = record {
  node = node_at layout place seen known gone p more later at.node;
  passed = (at.node.on.0, at.node.on.1, λ steady. inr is);
}

-- ---- what is known of a node that answers stays

state_at : (layout : Layout) (place known : ℕ) (p : Pass) → p.searching.known ≤ known → AtState layout place p → AtState layout place (fixed_at known p)
state_at layout place known p later at = record {
  node = node_at layout place p.seen known p.searching.gone p (prefix_all p.seen) later at.node;
  room = at.room;
  answers = λ steady e on. at.answers (steady_before p.seen known p.searching.gone p later at.node.begun steady) e on;
}

-- the search stays at its stage where it has loaded another word of the node
pub comes_state : (layout : Layout) (p new : Pass) (content : List ℕ) (place : ℕ) → new ≡ fixed_at new.searching.known p → p.searching.known ≤ new.searching.known → AtState layout place p → Comes layout p new content (20000 * place + 9004) (State place)
comes_state layout p new content place is later at = record {
  keeps = subst (λ (q : Pass). Keeps p q) (sym is) (keeps_at p.seen new.searching.known p.searching.gone p (prefix_all p.seen));
  at = subst (λ (q : Pass). AtState layout place q) (sym is) (state_at layout place new.searching.known p later at);
  within = omega arith;
}

size_at : (layout : Layout) (place known : ℕ) (p : Pass) → p.searching.known ≤ known → AtSize layout place p → AtSize layout place (fixed_at known p)
size_at layout place known p later at =
    let before = steady_before p.seen known p.searching.gone p later at.node.begun in
    record {
      node = node_at layout place p.seen known p.searching.gone p (prefix_all p.seen) later at.node;
      room = at.room;
      answers = λ steady e on. at.answers (before steady) e on;
      live = λ steady e on. at.live (before steady) e on;
    }

number_at : (layout : Layout) (place size known : ℕ) (p : Pass) → p.searching.known ≤ known → AtNumber layout place size p → AtNumber layout place size (fixed_at known p)
number_at layout place size known p later at = record {
  found = size_at layout place known p later at.found;
  short = at.short;
  fits = at.fits;
  sized = λ steady e on. at.sized (steady_before p.seen known p.searching.gone p later at.found.node.begun steady) e on;
}

version_at : (layout : Layout) (place size number known : ℕ) (p : Pass) → p.searching.known ≤ known → AtVersion layout place size number p → AtVersion layout place size number (fixed_at known p)
version_at layout place size number known p later at = record {
  found = number_at layout place size known p later at.found;
  numbered = λ steady e on. at.numbered (steady_before p.seen known p.searching.gone p later at.found.found.node.begun steady) e on;
}

-- ---- SIZE

length_of : (size reply : ℕ) (not_found : Bool) → reply ≤ kept_limit → size ≡ size_word reply not_found → reply_in size ≡ reply
length_of size reply true low is = omega arith
length_of size reply false low is = omega arith

pub size_read : (layout : Layout) (place known word : ℕ) (p : Pass) → p.searching.known ≤ known → AtSize layout place p → Read p known 2 word → reply_in word ≤ kept_limit → place + 8 + key_words p + words_for (reply_in word) ≤ table_words layout → AtNumber layout place word (fixed_at known p)
size_read layout place known word p later at read short fits = record {
  found = size_at layout place known p later at;
  short = short;
  fits = fits;
  sized = λ steady e on. (read steady e on).size refl;
}

-- a reply that does not fit was read of no node
pub size_wrong : (layout : Layout) (place known word : ℕ) (content : List ℕ) (p : Pass) → p.searching.known ≤ known → AtSize layout place p → Read p known 2 word
    → (reply_in word ≤ kept_limit → place + 8 + key_words p + words_for (reply_in word) ≤ table_words layout → ⊥) → AtLast content NoEntry (fixed_at known p)
size_wrong layout place known word content p later at read wrong = record {
  begun = begun_at p.seen known p.searching.gone p (prefix_all p.seen) later at.node.begun;
  may = λ steady.
      let e = at.node.on.0 in
      let before = steady_before p.seen known p.searching.gone p later at.node.begun steady in
      let within = at.node.within before e at.node.on.1 in
      let is : reply_in word ≡ length e.answer.bytes = length_of word (length e.answer.bytes) e.answer.not_found within.reply ((read steady e at.node.on.1).size refl) in
      let key : length e.request.key ≡ length p.searching.request.key = ap (λ r. length r.key) (at.answers before e at.node.on.1) in
      let low = within.reply in
      let high = within.high in
      absurd (wrong (omega arith) (omega arith));
}

-- ---- NUMBER and VERSION

pub number_read : (layout : Layout) (place size known word : ℕ) (p : Pass) → p.searching.known ≤ known → AtNumber layout place size p → Read p known 0 word → AtVersion layout place size word (fixed_at known p)
number_read layout place size known word p later at read = record {
  found = number_at layout place size known p later at;
  numbered = λ steady e on. sym ((read steady e on).number refl);
}

pub version_read : (layout : Layout) (place size number known word : ℕ) (p : Pass) → p.searching.known ≤ known → AtVersion layout place size number p → Read p known 3 word → 0 < words_for (reply_in size) → AtReply layout place size number word 0 [] (fixed_at known p)
version_read layout place size number known word p later at read some = record {
  found = version_at layout place size number known p later at;
  of_version = λ steady e on. sym ((read steady e on).version refl);
  few = some;
  filled = refl;
  said = λ steady e on. refl;
}

mark_of : (size reply : ℕ) (not_found : Bool) → size ≡ size_word reply not_found → not_found ≡ eqb (size % 2) 1
mark_of size reply true is = let odd : size % 2 ≡ 1 = omega arith in sym (ap (λ (n : ℕ). eqb n 1) odd)
mark_of size reply false is = let even : size % 2 ≡ 0 = omega arith in sym (ap (λ (n : ℕ). eqb n 1) even)

-- all of a reply is copied
copied_all : (layout : Layout) (place size number version : ℕ) (content : List ℕ) (not_found : Bool) (p : Pass) → AtVersion layout place size number p → not_found ≡ eqb (size % 2) 1
    → Tells p (λ e. e.version ≡ version) → Tells p (λ e. length e.answer.bytes ≡ reply_in size → e.answer.bytes ≡ content) → AtLast content (Hit number version not_found) p
copied_all layout place size number version content not_found p at mark of said =
    let node = at.found.found.node in
    record {
      begun = node.begun;
      may = (
        node.on,
        λ steady e on.
            let sized = at.found.sized steady e on in
            let within = node.within steady e on in
            record {
              answers = at.found.found.answers steady e on;
              live = at.found.found.live steady e on;
              numbered = at.numbered steady e on;
              of_version = of steady e on;
              marked = mark_of size (length e.answer.bytes) e.answer.not_found sized ∙ sym mark;
              said = said steady e on (sym (length_of size (length e.answer.bytes) e.answer.not_found within.reply sized));
            },
      );
    }

empty_is : (bytes : List ℕ) → length bytes ≡ 0 → bytes ≡ []
empty_is [] e = refl
empty_is (b ∷ bytes) e = absurd (omega arith)

-- a reply of no bytes
pub version_last : (layout : Layout) (place size number known word : ℕ) (not_found : Bool) (p : Pass) → p.searching.known ≤ known → AtVersion layout place size number p → Read p known 3 word → reply_in size ≡ 0 → not_found ≡ eqb (size % 2) 1 → AtLast [] (Hit number word not_found) (fixed_at known p)
version_last layout place size number known word not_found p later at read none mark =
    copied_all layout place size number word [] not_found (fixed_at known p) (version_at layout place size number known p later at) mark (λ steady e on. sym ((read steady e on).version refl)) (λ steady e on is. empty_is e.answer.bytes (is ∙ none))

-- ---- the reply

-- the bytes with those of one word more
abbrev pub with_word : List ℕ → ℕ → ℕ → List ℕ
with_word content count word = content ++ take count (little_bytes 8 word)

word_said : (bytes content : List ℕ) (copied count word : ℕ) → All (λ b. b < 256) bytes → 8 * copied < length bytes → count ≡ min (length bytes - 8 * copied) 8 → word ≡ word_of bytes copied → take (8 * copied) bytes ≡ content → take (8 * (copied + 1)) bytes ≡ with_word content count word
word_said bytes content copied count word all more is holds said =
    let few : count ≤ 8 = omega arith in
    one_more_word bytes copied count word all more is holds ∙ ap (λ (xs : List ℕ). xs ++ little_bytes count word) said ∙ ap (λ (xs : List ℕ). content ++ xs) (sym (take_low count 8 0 word few))

-- a word of the reply was read
record Copies (layout : Layout) (place size number version copied known : ℕ) (content : List ℕ) (count word : ℕ) (p : Pass) : Type 0 where
  later : p.searching.known ≤ known
  at : AtReply layout place size number version copied content p
  count_is : count ≡ min (reply_in size - 8 * copied) 8
  read : Read p known (8 + key_words p + copied) word

said_more : (layout : Layout) (place size number version copied known : ℕ) (content : List ℕ) (count word : ℕ) (p : Pass) → Copies layout place size number version copied known content count word p
    → Tells (fixed_at known p) (λ e. (length e.answer.bytes ≡ reply_in size) × (take (8 * (copied + 1)) e.answer.bytes ≡ with_word content count word))
said_more layout place size number version copied known content count word p c steady e on =
    let node = c.at.found.found.found.node in
    let before = steady_before p.seen known p.searching.gone p c.later node.begun steady in
    let within = node.within before e on in
    let is : reply_in size ≡ length e.answer.bytes = length_of size (length e.answer.bytes) e.answer.not_found within.reply (c.at.found.found.sized before e on) in
    let key : length e.request.key ≡ length p.searching.request.key = ap (λ r. length r.key) (c.at.found.found.found.answers before e on) in
    let few : copied < words_for (reply_in size) = c.at.few in
    let inside : copied < words_for (length e.answer.bytes) = omega arith in
    let index : 8 + key_words p + copied ≡ 8 + words_for (length e.request.key) + copied = ap (λ (n : ℕ). 8 + words_for n + copied) (sym key) in
    let holds : word ≡ word_of e.answer.bytes copied = (c.read steady e on).reply copied inside index in
    let more : 8 * copied < length e.answer.bytes = omega arith in
    let count_is : count ≡ min (length e.answer.bytes - 8 * copied) 8 = c.count_is ∙ ap (λ (n : ℕ). min (n - 8 * copied) 8) is in
    (sym is, word_said e.answer.bytes content copied count word within.reply_bytes more count_is holds (c.at.said before e on))

-- `copied` words of the reply are copied, or all of it
pub record IsCopying (layout : Layout) (place size number version copied : ℕ) (content : List ℕ) (p : Pass) : Type 0 where
  pub found : AtVersion layout place size number p
  pub of_version : Tells p (λ e. e.version ≡ version)
  pub filled : length content ≡ min (8 * copied) (reply_in size)
  pub said : Tells p (λ e. take (8 * copied) e.answer.bytes ≡ content)

pub copying_at : (layout : Layout) (place size number version copied : ℕ) (content : List ℕ) (p : Pass) → AtReply layout place size number version copied content p → IsCopying layout place size number version copied content p
copying_at layout place size number version copied content p at = let few = at.few in let filled = at.filled in record { found = at.found; of_version = at.of_version; filled = omega arith; said = at.said }

pub copying_on : (layout : Layout) (place size number version copied : ℕ) (content : List ℕ) (p : Pass) → IsCopying layout place size number version copied content p → copied < words_for (reply_in size) → AtReply layout place size number version copied content p
copying_on layout place size number version copied content p is few = let filled = is.filled in record { found = is.found; of_version = is.of_version; few = few; filled = omega arith; said = is.said }

pub copying_all : (layout : Layout) (place size number version copied : ℕ) (content : List ℕ) (not_found : Bool) (p : Pass) → IsCopying layout place size number version copied content p → words_for (reply_in size) ≤ copied → not_found ≡ eqb (size % 2) 1
    → AtLast content (Hit number version not_found) p
copying_all layout place size number version copied content not_found p is last mark =
    copied_all layout place size number version content not_found p is.found mark is.of_version
    (λ steady e on same. let short : length e.answer.bytes ≤ 8 * copied = omega arith in sym (take_all (8 * copied) e.answer.bytes short) ∙ is.said steady e on)

pub copying_more : (layout : Layout) (place size number version copied known : ℕ) (content : List ℕ) (count word : ℕ) (p : Pass) → p.searching.known ≤ known → AtReply layout place size number version copied content p → count ≡ min (reply_in size - 8 * copied) 8 → Read p known (8 + key_words p + copied) word
    → IsCopying layout place size number version (copied + 1) (with_word content count word) (fixed_at known p)
copying_more layout place size number version copied known content count word p later at is read =
    let c : Copies layout place size number version copied known content count word p = record { later = later; at = at; count_is = is; read = read } in
    let few = at.few in
    let filled : length content ≡ 8 * copied = at.filled in
    let both : length (with_word content count word) ≡ length content + length (take count (little_bytes 8 word)) = length-append content (take count (little_bytes 8 word)) in
    let part : length (take count (little_bytes 8 word)) ≡ min count (length (little_bytes 8 word)) = length-take count (little_bytes 8 word) in
    let eight : length (little_bytes 8 word) ≡ 8 = length-bytes_low_first 0 8 word in
    record {
      found = version_at layout place size number known p later at.found;
      of_version = λ steady e on. at.of_version (steady_before p.seen known p.searching.gone p later at.found.found.found.node.begun steady) e on;
      filled = omega arith;
      said = λ steady e on. (said_more layout place size number version copied known content count word p c steady e on).1;
    }

pub reply_more : (layout : Layout) (place size number version copied known : ℕ) (content : List ℕ) (count word : ℕ) (p : Pass) → p.searching.known ≤ known → AtReply layout place size number version copied content p → count ≡ min (reply_in size - 8 * copied) 8 → Read p known (8 + key_words p + copied) word
    → copied + 1 < words_for (reply_in size) → AtReply layout place size number version (copied + 1) (with_word content count word) (fixed_at known p)
reply_more layout place size number version copied known content count word p later at is read more =
    copying_on layout place size number version (copied + 1) (with_word content count word) (fixed_at known p) (copying_more layout place size number version copied known content count word p later at is read) more

pub reply_last : (layout : Layout) (place size number version copied known : ℕ) (content : List ℕ) (count word : ℕ) (not_found : Bool) (p : Pass) → p.searching.known ≤ known → AtReply layout place size number version copied content p → count ≡ min (reply_in size - 8 * copied) 8 → Read p known (8 + key_words p + copied) word
    → words_for (reply_in size) ≤ copied + 1 → not_found ≡ eqb (size % 2) 1 → AtLast (with_word content count word) (Hit number version not_found) (fixed_at known p)
reply_last layout place size number version copied known content count word not_found p later at is read last mark =
    copying_all layout place size number version (copied + 1) (with_word content count word) not_found (fixed_at known p) (copying_more layout place size number version copied known content count word p later at is read) last mark

-- ---- words in a block

-- the first bytes of a block in which a word was put
pub put_in : (a k count : ℕ) (block bytes : List ℕ) → a ≤ length block → count ≤ length bytes → take (a + count) (put_mid a k block bytes) ≡ take a block ++ take count bytes
put_in a k count block bytes low few =
    ap (λ (n : ℕ). take (n + count) (put_mid a k block bytes)) (sym (length-take-le a block low))
    ∙ take-append-add (take a block) (bytes ++ post_of a k block) count
    ∙ ap (λ (xs : List ℕ). take a block ++ xs) (take-append-le count bytes (post_of a k block) few)

-- one word more is copied into a block
pub block_more : (layout : Layout) (place size number version copied index known word : ℕ) (content block bytes : List ℕ) (p : Pass) → p.searching.known ≤ known → IsCopying layout place size number version (copied + index) (content ++ take (min (8 * index) (reply_in size - 8 * copied)) block) p
    → copied + index < words_for (reply_in size) → 8 * index + 8 ≤ length block → bytes ≡ little_bytes 8 word → Read p known (8 + key_words p + (copied + index)) word
    → IsCopying layout place size number version (copied + (index + 1)) (content ++ take (min (8 * (index + 1)) (reply_in size - 8 * copied)) (put_mid (8 * index) (8 * index + 8 - 8 * index) block bytes)) (fixed_at known p)
block_more layout place size number version copied index known word content block bytes p later is few room bytes_are read =
    let here : min (8 * index) (reply_in size - 8 * copied) ≡ 8 * index = omega arith in
    let count : ℕ = min (reply_in size - 8 * (copied + index)) 8 in
    let next : 8 * index + min (reply_in size - 8 * (copied + index)) 8 ≡ min (8 * (index + 1)) (reply_in size - 8 * copied) = omega arith in
    let eight : length bytes ≡ 8 = ap length bytes_are ∙ length-bytes_low_first 0 8 word in
    let all : count ≤ length bytes = omega arith in
    let low : 8 * index ≤ length block = omega arith in
    let before : List ℕ = content ++ take (8 * index) block in
    let block_is = put_in (8 * index) (8 * index + 8 - 8 * index) count block bytes low all in
    let same : with_word before count word ≡ content ++ take (min (8 * (index + 1)) (reply_in size - 8 * copied)) (put_mid (8 * index) (8 * index + 8 - 8 * index) block bytes) =
    append_assoc content (take (8 * index) block) (take count (little_bytes 8 word))
    ∙ ap (λ (bs : List ℕ). content ++ (take (8 * index) block ++ take count bs)) (sym bytes_are)
    ∙ ap (λ (xs : List ℕ). content ++ xs) (sym block_is)
    ∙ ap (λ (n : ℕ). content ++ take n (put_mid (8 * index) (8 * index + 8 - 8 * index) block bytes)) next
    in
    let was : IsCopying layout place size number version (copied + index) before p = subst (λ (n : ℕ). IsCopying layout place size number version (copied + index) (content ++ take n block) p) here is in
    let more = copying_more layout place size number version (copied + index) known before count word p later (copying_on layout place size number version (copied + index) before p was few) refl read in
    let index_is : copied + index + 1 ≡ copied + (index + 1) = omega arith in
    subst (λ (n : ℕ). IsCopying layout place size number version n (content ++ take (min (8 * (index + 1)) (reply_in size - 8 * copied)) (put_mid (8 * index) (8 * index + 8 - 8 * index) block bytes)) (fixed_at known p)) index_is
    (subst (λ (xs : List ℕ). IsCopying layout place size number version (copied + index + 1) xs (fixed_at known p)) same more)
