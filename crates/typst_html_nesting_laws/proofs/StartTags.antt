-- A start tag is read as one, its names in small letters.
use Rattle.std.proofs.Common.{◌≡◌, ℕ, ◌+◌, ◌≤◌, Bool, true, false, List, [], ◌∷◌, ◌++◌, bytes_eq, codes, eqb, length, refl, sym, ap, ◌∙◌, subst, arith, append_assoc, append-nil, drop, length-append, None}
use Rattle.std.proofs.lemmas.{Bool.{and_from, and_parts, lt-leb, not-false, not-true, or_parts, Decides.{nat_tests}}, List.{length-map}}
use Rattle.std.specs.{Char.{len_utf8, to_ascii_lowercase}, List.{list_any}, Prelude.{if◌then◌else◌, nat_le}}
use Rattle.html_names_core.{proofs.Basics.{bytes_eq-sym}, specs.Characters.{all, IsOf, is_attr_char, is_text_char, is_value_char}}
use Rattle.html_names_core.specs.{Kinds.{is_foreign_self_closing}, Names.{attr_fault}}
use Rattle.html_dom_tree.specs.{Attributes.{first, has_name, names_differ}, Tree.{TextPair, Head}}
use Rattle.html_page_nesting.specs.{WrittenTags.{begins_with_letter}, WrittenTexts.{has_return, is_return}}
use Rattle.typst_html_encode.{proofs.Runs.{left_empty, right_empty, test_fails}, specs.ExportFaults.{attrs_faults}}
use Rattle.typst_html_encode.specs.{ReadingBack.{HeadIsNamed, PairsAreNamed}, References.{reference_to}}
use Rattle.typst_html_encode.specs.Text.{attrs_text, start_tag_text, tag_close, value_text}
use Rattle.html_page_names.specs.ForeignNames.{lowered}
use Rattle.html_page_stack.specs.Pages.{Page, Start, StartTag, most_attrs}
use Rattle.html_page_tree.specs.PageTrees.{token_read}
use Rattle.html_page_read.specs.PageReading.{run}
use Rattle.html_page_read.specs.PageTokens.{AfterAttrName, AfterValue, AttrName, BeforeAttr, PageReader, Reading, SelfClosing, TagDraft, TagName, TagOpen, TokenState, Value, before_attr_read, goes, is_name, moved, past_char, step, tag_emitted, with_attr}
use Rattle.typst_html_nesting_laws.proofs.{Branches.{absent_parts, decide}, References.{value_reference}}
use Rattle.typst_html_nesting_laws.proofs.Readers.{Emits, behind, data_at, lowered_attrs, reading_at, started, written_tag}
use Rattle.typst_html_nesting_laws.proofs.TagChars.{Finishes, Moves, at_state, attr_faultless, finishes_on, grows, moves_on, name_lowered, name_moves, of_attr, one_moves, stepped, tag_named}

-- a text of a value and the quote behind it; how a character of a value is written has no name here

abbrev value_char_text : ℕ → List ℕ
value_char_text c = if is_value_char c then c ∷ [] else reference_to c

abbrev value_end : List ℕ → List ℕ
value_end [] = 34 ∷ []
value_end (c ∷ cs) = value_char_text c ++ value_end cs

value_end_is : (cs : List ℕ) → drop 3 (value_text (32 ∷ cs)) ≡ value_end cs
value_end_is [] = refl
value_end_is (c ∷ cs) = append_assoc (value_char_text c) _ (34 ∷ [])
    ∙ ap (λ l. value_char_text c ++ l) (value_end_is cs)

parts_empty : {A : Type 0} (x y z : List A) → (x ++ y) ++ z ≡ [] → (x ≡ []) × (y ++ z ≡ [])
parts_empty x y z h =
    (left_empty _ _ (left_empty _ _ h), right_empty _ _ (sym (append_assoc x y z) ∙ h))

-- where nothing is wrong, a value has text characters
value_good : (span : ℕ) (name value : List ℕ) (pairs : List TextPair) → attrs_faults span
    ((name, value) ∷ pairs) ≡ [] → (all is_text_char value ≡ true) × (attrs_faults span pairs ≡ [])
value_good span name [] pairs h = (refl, h)
value_good span name (c ∷ cs) pairs h =
    let parts = parts_empty _ _ (attrs_faults span pairs) h in
    let more = value_good span name cs pairs parts.1 in
    (and_from _ _ (not-false _ (or_parts _ _ (test_fails _ _ parts.0)).0) more.0, more.1)

-- names that differ

absent_behind : (before behind : List TextPair) (a : TextPair) (name : List ℕ) →
    has_name (before ++ a ∷ behind) name ≡ false → bytes_eq a.0 name ≡ false
absent_behind [] behind a name h = (absent_parts a.1 (first behind name) h).0
absent_behind (b ∷ before) behind a name h = absent_behind before behind a name
    (absent_parts b.1 (first (before ++ a ∷ behind) name) h).1

absent_before : (before behind : List TextPair) (a : TextPair) →
    names_differ (before ++ a ∷ behind) ≡ true → has_name before a.0 ≡ false
absent_before [] behind a h = refl
absent_before (b ∷ before) behind a h =
    let both = and_parts _ _ h in
    let other : bytes_eq b.0 a.0 ≡ false = bytes_eq-sym b.0 a.0
    ∙ absent_behind before behind a b.0 (not-true _ both.0) in
    rw other (absent_before before behind a both.1)

few_before : (before behind : List TextPair) (a : TextPair) →
    length (before ++ a ∷ behind) ≤ most_attrs → nat_le most_attrs (length before) ≡ false
few_before before behind a h =
    lt-leb most_attrs (length before) (omega (arith, length-append before (a ∷ behind), h))

-- a draft with one more attribute

abbrev with_pair : TagDraft → (attr value : List ℕ) → TagDraft
with_pair t attr value = record t { attrs = t.attrs ++ (attr, value) ∷ [] }

-- the attribute can be added
record IsNew (t : TagDraft) (attr : List ℕ) : Type 0 where
  faultless : attr_fault attr ≡ None
  absent : has_name t.attrs attr ≡ false
  few : nat_le most_attrs (length t.attrs) ≡ false

added : (t : TagDraft) (attr value : List ℕ) (r : Reading)
    (f : TagDraft → Reading → PageReader) → IsNew t attr →
    with_attr attr value t r f ≡ f (with_pair t attr value) r
added t attr value r f new = rw (new.faultless, new.absent, new.few) refl

-- states in which the tag so far is this

record IsBehind (s : TokenState) (t : TagDraft) : Type 0 where
  closes : (r : Reading) → moved s 62 r ≡ tag_emitted false t r
  closes_itself : (r : Reading) → moved s 47 r ≡ goes (SelfClosing t) r
  goes_on : (fresh : Bool) (place : ℕ) (p : Page) (c : ℕ) → is_attr_char c ≡ true → Moves
      (at_state s fresh place p) (32 ∷ c ∷ []) (AttrName t (to_ascii_lowercase c ∷ [])) fresh p

attr_begins : (t : TagDraft) (c : ℕ) (r : Reading) → is_attr_char c ≡ true →
    before_attr_read t c r ≡ goes (AttrName t (to_ascii_lowercase c ∷ [])) r
attr_begins t c r h =
    let k = of_attr c h in
    rw (k.no_space, k.no_solidus, k.no_greater) refl

-- the first character of an attribute, in such a state
first_moves : (s : TokenState) (t : TagDraft) (fresh : Bool) (place : ℕ) (p : Page) (c : ℕ) →
    is_attr_char c ≡ true → moved s c (reading_at fresh place p)
    ≡ goes (AttrName t (to_ascii_lowercase c ∷ [])) (reading_at fresh place p) →
    Moves (at_state s fresh place p) (c ∷ []) (AttrName t (to_ascii_lowercase c ∷ [])) fresh p
first_moves s t fresh place p c h e =
    let k = of_attr c h in
    one_moves (at_state s fresh place p) _ fresh (place + len_utf8 c) p c
    (stepped s (AttrName t (to_ascii_lowercase c ∷ [])) fresh place p c k.no_zero k.no_return e)

begins_behind : (t : TagDraft) (fresh : Bool) (place : ℕ) (p : Page) (c : ℕ) →
    is_attr_char c ≡ true → Moves (at_state (BeforeAttr t) fresh place p) (c ∷ [])
    (AttrName t (to_ascii_lowercase c ∷ [])) fresh p
begins_behind t fresh place p c h = first_moves (BeforeAttr t) t fresh place p c h
    (attr_begins t c (reading_at fresh place p) h)

behind_name : (t : TagDraft) → IsBehind (TagName t) t
behind_name t = record {
  closes = λ r. refl;
  closes_itself = λ r. refl;
  goes_on = λ fresh place p c h.
      let m = begins_behind t fresh (place + 1) p c h in record { place = m.place; is = m.is };
}

behind_value : (t : TagDraft) → IsBehind (AfterValue t) t
behind_value t = record {
  closes = λ r. refl;
  closes_itself = λ r. refl;
  goes_on = λ fresh place p c h.
      let m = begins_behind t fresh (place + 1) p c h in record { place = m.place; is = m.is };
}

-- a name without a value
behind_attr : (t : TagDraft) (attr : List ℕ) → IsNew t attr →
    IsBehind (AttrName t attr) (with_pair t attr [])
behind_attr t attr new = record {
  closes = λ r. added t attr [] r (tag_emitted false) new;
  closes_itself = λ r. added t attr [] r (λ d. goes (SelfClosing d)) new;
  goes_on = λ fresh place p c h.
      let m = first_moves (AfterAttrName t attr) (with_pair t attr []) fresh (place + 1) p c h
      (begins c (reading_at fresh (place + 1) p) h) in
      record { place = m.place; is = m.is };
} where
  begins : (c : ℕ) (r : Reading) → is_attr_char c ≡ true → moved (AfterAttrName t attr) c r
      ≡ goes (AttrName (with_pair t attr []) (to_ascii_lowercase c ∷ [])) r
  begins c r h =
      let k = of_attr c h in
      rw (k.no_space, k.no_equals, k.no_solidus, k.no_greater, new.faultless, new.absent, new.few)
      refl

-- names and values of attributes

attr_moves : (s : TokenState) (t : TagDraft) → IsBehind s t → (name : List ℕ) →
    IsOf is_attr_char name → (fresh : Bool) (place : ℕ) (p : Page) →
    Moves (at_state s fresh place p) (32 ∷ name) (AttrName t (lowered name)) fresh p
attr_moves s t behind [] named fresh place p = absurd named
attr_moves s t behind (c ∷ cs) named fresh place p =
    moves_on (32 ∷ c ∷ []) cs (behind.goes_on fresh place p c named.0)
    (λ here. grows (AttrName t) to_ascii_lowercase is_attr_char fresh p more
    (to_ascii_lowercase c ∷ []) cs here named.1) where
      more : (xs : List ℕ) (d place : ℕ) →
          is_attr_char d ≡ true → step (at_state (AttrName t xs) fresh place p) d ≡ goes
          (AttrName t (xs ++ to_ascii_lowercase d ∷ [])) (reading_at fresh (place + len_utf8 d) p)
      more xs d place h =
          let k = of_attr d h in
          stepped (AttrName t xs) _ fresh place p d k.no_zero k.no_return
          (rw (k.no_space, k.no_equals, k.no_solidus, k.no_greater) refl)

module _ (t : TagDraft) (attr : List ℕ) (fresh : Bool) (p : Page) where
  -- within the quotes
  abbrev quoted : (value : List ℕ) (place : ℕ) → PageReader
  quoted value place = at_state (Value t attr value 34) fresh place p

  char_moves : (value : List ℕ) (c place : ℕ) → is_text_char c ≡ true → is_return c ≡ false →
      Moves (quoted value place) (value_char_text c) (Value t attr (value ++ c ∷ []) 34) fresh p
  char_moves value c place h n = decide (is_value_char c) (λ e. let parts = and_parts _ _ e in
      let no_quote : eqb c 34 ≡ false = not-true _ parts.1 in
      let no_and : eqb c 38 ≡ false = not-true _ (and_parts _ _ parts.0).1 in
      let no_zero : eqb c 0 ≡ false = grind (arith, nat_tests) in
      let now = Value t attr (value ++ c ∷ []) 34 in
      rw e (one_moves (quoted value place) now fresh (place + len_utf8 c) p c
      (stepped (Value t attr value 34) now fresh place p c no_zero n (rw (no_quote, no_and) refl))))
      (λ e. let x = value_reference t attr value fresh place p c h n in
      rw e (record { place = x.0; is = x.1 }))

  quote_moves : (value : List ℕ) (place : ℕ) → IsNew t attr →
      Moves (quoted value place) (34 ∷ []) (AfterValue (with_pair t attr value)) fresh p
  quote_moves value place new =
      let after = AfterValue (with_pair t attr value) in
      one_moves (quoted value place) after fresh (place + 1) p 34
      (stepped (Value t attr value 34) after fresh place p 34 refl refl
      (added t attr value (reading_at fresh place p) (λ d. goes (AfterValue d)) new))

  value_moves : (value cs : List ℕ) (place : ℕ) → IsNew t attr → all is_text_char cs ≡ true →
      has_return cs ≡ false → Moves (quoted value place) (value_end cs)
      (AfterValue (with_pair t attr (value ++ cs))) fresh p
  value_moves value [] place new h n = rw (append-nil value) (quote_moves value place new)
  value_moves value (c ∷ cs) place new h n =
      let both = and_parts _ _ h in
      let none = or_parts _ _ n in
      rw (← append_assoc value (c ∷ []) cs) (moves_on (value_char_text c) (value_end cs)
      (char_moves value c place both.0 none.0)
      (λ here. value_moves (value ++ c ∷ []) cs here new both.1 none.1))

  -- with what leads on behind it
  valued : (value : List ℕ) (place : ℕ) (ys : List ℕ) (tag : StartTag) → IsNew t attr →
      all is_text_char value ≡ true → has_return value ≡ false → ((s : TokenState) (here : ℕ) →
      IsBehind s (with_pair t attr value) → Finishes (at_state s fresh here p) ys (Start tag) p) →
      Finishes (at_state (AttrName t attr) fresh place p) (value_text value ++ ys) (Start tag) p
  valued [] place ys tag new h n k = k (AttrName t attr) place (behind_attr t attr new)
  valued (c ∷ cs) place ys tag new h n k =
      let value = c ∷ cs in
      let after = AfterValue (with_pair t attr value) in
      let m : Moves (quoted [] (place + 1 + 1)) (drop 3 (value_text (32 ∷ value))) after fresh p =
      rw (value_end_is value) (value_moves [] value (place + 1 + 1) new h n) in
      finishes_on (value_text value) ys (record { place = m.place; is = m.is })
      (λ here. k after here (behind_value (with_pair t attr value)))

-- the tag of that name, which is written so
module _ (name written : List ℕ) (is : is_name name ≡ true) (fresh : Bool) (p : Page) where
  abbrev draft : List TextPair → TagDraft
  draft attrs = record { is_end = false; name = name; attrs = attrs }

  abbrev made : List TextPair → (closed : Bool) → StartTag
  made attrs closed = record { name = name; attrs = attrs; closed = closed }

  -- behind the `>`
  ended : (closed : Bool) (attrs : List TextPair) (place : ℕ) (after : Page) →
      token_read (Start (made attrs closed)) p ≡ after →
      past_char 62 place (tag_emitted closed (draft attrs) (reading_at fresh place p))
      ≡ behind (Start (made attrs closed)) place after
  ended closed attrs place after taken = rw (is, taken) refl

  close_finishes : (b : Bool) (s : TokenState) (attrs : List TextPair) (place : ℕ) →
      IsBehind s (draft attrs) → Finishes
      (at_state s fresh place p) (if b then codes "/>" else codes ">") (Start (made attrs b)) p
  close_finishes false s attrs place k = record {
    place = place;
    is = λ after taken. ap (past_char 62 place) (k.closes (reading_at fresh place p)) ∙ ended false attrs place after taken;
  }
  close_finishes true s attrs place k = record {
    place = place + 1;
    is = λ after taken. ap (λ q. run q (62 ∷ []))
        (stepped s (SelfClosing (draft attrs)) fresh place p 47 refl refl
        (k.closes_itself (reading_at fresh place p))) ∙ ended true attrs (place + 1) after taken;
  }

  pairs_finish : (span : ℕ) (before pairs : List TextPair) (s : TokenState) (place : ℕ) →
      IsBehind s (draft before) → PairsAreNamed pairs → attrs_faults span pairs ≡ [] → list_any
      (λ a. has_return a.1) pairs ≡ false → names_differ (before ++ lowered_attrs pairs) ≡ true →
      length (before ++ lowered_attrs pairs) ≤ most_attrs →
      Finishes (at_state s fresh place p) (attrs_text pairs ++ tag_close written)
      (Start (made (before ++ lowered_attrs pairs) (is_foreign_self_closing written))) p
  pairs_finish span before [] s place k named good none differ few =
      rw (append-nil before) (close_finishes (is_foreign_self_closing written) s before place k)
  pairs_finish span before (a ∷ pairs) s place k named good none differ few =
      let attr = lowered a.0 in
      let pair : TextPair = (attr, a.1) in
      let rest = lowered_attrs pairs in
      let tail = attrs_text pairs ++ tag_close written in
      let closed = is_foreign_self_closing written in
      let joined = append_assoc before (pair ∷ []) rest in
      let values = value_good span a.0 a.1 pairs good in
      let returns = or_parts _ _ none in
      let new : IsNew (draft before) attr = record {
        faultless = attr_faultless a.0 named.0;
        absent = absent_before before rest pair differ;
        few = few_before before rest pair few;
      } in
      let value = value_text a.1 in
      let end = tag_close written in
      let split : (32 ∷ a.0) ++ (value ++ tail) ≡ attrs_text (a ∷ pairs) ++ end =
      sym (ap (λ l. 32 ∷ l) (append_assoc a.0 (value ++ attrs_text pairs) end
      ∙ ap (λ l. a.0 ++ l) (append_assoc value (attrs_text pairs) end))) in
      let whole = made (before ++ pair ∷ rest) closed in
      subst (λ l. Finishes (at_state s fresh place p) l (Start whole) p) split
      (finishes_on (32 ∷ a.0) (value ++ tail)
      (attr_moves s (draft before) k a.0 named.0 fresh place p)
      (λ here. valued (draft before) attr fresh p a.1 here tail whole new values.0 returns.0
      (λ t there b. rw (← joined) (pairs_finish span (before ++ pair ∷ []) pairs t there b named.1
      values.1 returns.1 (rw joined differ) (rw joined few)))))

pub start_emits : (h : Head) (span : ℕ) → HeadIsNamed h → begins_with_letter h.name ≡ true →
    attrs_faults span h.attrs ≡ [] → list_any (λ a. has_return a.1) h.attrs ≡ false → names_differ
    (lowered_attrs h.attrs) ≡ true → length h.attrs ≤ most_attrs → (fresh : Bool) (place : ℕ)
    (p : Page) → Emits (data_at fresh place p) (start_tag_text h) (Start (written_tag h)) p
start_emits h span named letter good none differ few fresh place p =
    let begun = started place p in
    let q = at_state TagOpen fresh (place + 1) begun in
    let draft = tag_named false (lowered h.name) in
    let same : length (lowered_attrs h.attrs) ≡ length h.attrs =
    length-map h.attrs (λ a. (lowered a.0, a.1)) in
    let f : Finishes q (h.name ++ (attrs_text h.attrs ++ tag_close h.name)) (Start (written_tag h))
    begun = finishes_on h.name (attrs_text h.attrs ++ tag_close h.name) (name_moves false TagOpen
    (λ c r e. rw e refl) h.name named.0 letter fresh (place + 1) begun) (λ here. pairs_finish
    (lowered h.name) h.name (name_lowered h.name named.0) fresh begun span [] h.attrs
    (TagName draft) here (behind_name draft) named.1 good none differ (rw same few)) in
    record { start = place; place = f.place; is = f.is }
