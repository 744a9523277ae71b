-- Elements of text alone are read as they are, as far as their end tags.
use Rattle.std.proofs.Common.{◌≡◌, ℕ, zero, suc, ◌+◌, ◌-◌, ◌<◌, ◌≤◌, min, Bool, true, false, ◌&&◌, ◌⊎◌, inl, inr, eqb, List, [], ◌∷◌, ◌++◌, codes, length, take, drop, map, Some, None, refl, ap, ◌∙◌, sym, append_assoc, arith, length-append}
use Rattle.std.proofs.{Math.{Bool.{and-false}, Seq.{drop-append-add}}, lemmas.{Bool.Decides.{nat_tests}}}
use Rattle.std.proofs.lemmas.Bool.{and_parts, and_from, and_left, and_right, or_parts, false_from_ne_true, false≢true, leb-true, le-leb, lt-ltb}
use Rattle.std.proofs.lemmas.{List.{append-nil, take_at, drop_at, length-map}, Slice.Eq.{bytes_eq-Decides}}
use Rattle.std.specs.{Char.{len_utf8, to_ascii_lowercase}, Prelude.{if◌then◌else◌, nat_le}}
use Rattle.html_names_core.{proofs.Basics.{all_append}, specs.Characters.{all, is_element_text_char, is_lower, is_tag_char, is_text_char}}
use Rattle.html_page_nesting.specs.{ScriptTexts.{hides_end}, WrittenTexts.{has_return, is_return}}
use Rattle.typst_html_encode.{proofs.RawBack.{is_not_less, no_end_at_less, tag_ends}, specs.References.{reference_to}}
use Rattle.typst_html_encode.specs.Text.{char_text, end_tag_text, escaped_text, escaping_of}
use Rattle.html_text.specs.{ClosingTags.{is_tag_end, closing, holds_closing, ends_closing, before_closing}}
use Rattle.html_page_names.specs.PageNames.{of}
use Rattle.html_page_names.specs.declared.kind.Kind.TheVariants as kind
use Rattle.html_page_stack.specs.{OpenElements.{current_name, is_at}, Pages.{Page, Token, End}}
use Rattle.html_page_tree.specs.PageTrees.{token_read}
use Rattle.html_page_read.{proofs.PageStretches.{other}, specs.PageReading.{run}}
use Rattle.html_page_read.specs.PageTokens.{Raw, Reference, PageReader, ended_name, ended_of, is_name, may_end, script_depth, step}
use Rattle.typst_html_nesting_laws.proofs.{KindFacts.{fails_of, names, passes_of}, References.{reference_leads}}
use Rattle.typst_html_nesting_laws.proofs.{Readers.{Emits, Takes, data_at, reading_at, run_on, texted}, Branches.{decide}}
use Rattle.typst_html_nesting_laws.proofs.ScriptDepths.{end_low, last_depth, next_depth, no_depth, no_depths, none_ended, script_stays, slash_stays}
use Rattle.typst_html_nesting_laws.proofs.Texts.{begins_with_lf, is_plain_text_char, not_dropped, nothing_dropped}

no_script : (name : List ℕ) → of kind.EscapableRaw name ≡ true → of kind.Script name ≡ false
no_script name h = fails_of (of kind.Script) kind.EscapableRaw name (unfold names in refl) h

-- their characters
lower_no_end : (c : ℕ) → is_lower c ≡ true → is_tag_end c ≡ false
unfolding is_tag_end
lower_no_end c h = grind (arith, nat_tests)

-- small letters of other characters are themselves
lower_is : (c n : ℕ) → to_ascii_lowercase c ≡ n → n < 65 → c ≡ n
lower_is c n e h = grind (arith, nat_tests)

-- where no `<` is, no closing tag has ended
less_first : (y ys : List ℕ) → all is_not_less y ≡ true → map to_ascii_lowercase y ≡ 60 ∷ ys → ⊥
less_first [] ys h e = cc
less_first (d ∷ ds) ys h e =
    let same : d ≡ 60 = lower_is d 60 (cc) (omega arith) in
    false≢true (ap is_not_less (sym same) ∙ (and_parts _ _ h).0)

clean_drop : (n : ℕ) (b : List ℕ) → all is_not_less b ≡ true → all is_not_less (drop n b) ≡ true
clean_drop zero b h = h
clean_drop (suc n) [] h = h
clean_drop (suc n) (c ∷ cs) h = clean_drop n cs (and_parts _ _ h).1

-- so many characters stand behind the last `<`, or all of them
abbrev Reach : (a b : List ℕ) (since : ℕ) → Type 0
Reach a b since = (a ≡ []) ⊎ (since ≤ length b)

clean_end : (a b : List ℕ) (since k : ℕ) → all is_not_less b ≡ true → Reach a b since → k ≤ since →
    all is_not_less (drop (length (a ++ b) - k) (a ++ b)) ≡ true
clean_end a b since k h (inl e) m = ap (λ l. all is_not_less (drop (length (a ++ b) - k) (l ++ b)))
    e ∙ clean_drop (length (a ++ b) - k) b h
clean_end a b since k h (inr r) m =
    let far : length (a ++ b) - k ≡ length a + (length b - k) = omega (arith, length-append a b) in
    let rest = ap (λ n. drop n (a ++ b)) far ∙ drop-append-add a b (length b - k) in
    ap (all is_not_less) rest ∙ clean_drop (length b - k) b h

not_within : (name a b : List ℕ) (since : ℕ) → all is_not_less b ≡ true → Reach a b since →
    length (closing name) ≤ since → ends_closing name (a ++ b) ≡ true → ⊥
not_within name a b since h r m e =
    let y = drop (length (a ++ b) - length (closing name)) (a ++ b) in
    less_first y (47 ∷ map to_ascii_lowercase name)
    (clean_end a b since (length (closing name)) h r m)
    ((bytes_eq-Decides (map to_ascii_lowercase y) (closing name)).0 e)

-- a page whose current element is one of HTML of that name
pub record IsWithin (name : List ℕ) (p : Page) : Type 0 where
  pub current : current_name p.stack ≡ Some name
  pub escapable : is_at (of kind.EscapableRaw) p.stack ≡ of kind.EscapableRaw name
  pub script : is_at (of kind.Script) p.stack ≡ of kind.Script name

-- the reader with that text of the element
abbrev raw_in : (fresh : Bool) (depth since place : ℕ) (text : List ℕ) → Page → PageReader
raw_in fresh depth since place text p =
    record { state = Raw depth since; reading = reading_at fresh place (texted text p.start p) }

-- what is read before an end tag
emits_on : {q r : PageReader} {ds : List ℕ} {token : Token} {p : Page} (cs : List ℕ) →
    run q cs ≡ r → Emits r ds token p → Emits q (cs ++ ds) token p
emits_on {q} {r} {ds} cs h x = record {
  start = x.start;
  place = x.place;
  is = λ after e. run_on _ _ _ cs ds h (x.is after e);
}

module _ {name : List ℕ} {p : Page} (within : IsWithin name p) (takes : Takes (λ c. true) p) where
  not_ended : (depth since : ℕ) (text : List ℕ) (c : ℕ) →
      (is_tag_end c && ends_closing name text) ≡ false →
      ended_of (Some name) depth since text c ≡ None
  not_ended depth since text c h = ap (λ b. if b then Some name else None) (and_right _ _ h)

  -- a character that is added to the text
  raw_one : (fresh : Bool) (depth since place : ℕ) (text : List ℕ) (c : ℕ) → eqb c 0 ≡ false →
      is_return c ≡ false → (fresh && eqb c 10) ≡ false → ended_of (Some name) depth since text c
      ≡ None → (eqb c 38 && of kind.EscapableRaw name) ≡ false →
      step (raw_in fresh depth since place text p) c
      ≡ raw_in false (next_depth name depth text c) (min (since + 1) 255) (place + len_utf8 c)
      (text ++ c ∷ []) p
  raw_one fresh depth since place text c e0 n kept none plain =
      let e10 = and-false (eqb c 10) in
      let ended : ended_name p.stack depth since text c ≡ None =
      ap (λ o. ended_of o depth since text c) within.current ∙ none in
      let reference : (eqb c 38 && is_at (of kind.EscapableRaw) p.stack) ≡ false =
      ap (λ b. eqb c 38 && b) within.escapable ∙ plain in
      let taken = takes c text p.start refl e0 in
      rw (e0, e10, n, ended, reference, kept, taken, within.script) refl

  -- one of an end tag, which keeps the depth
  tag_one : (fresh : Bool) (depth since place : ℕ) (text : List ℕ) (c : ℕ) → eqb c 0 ≡ false →
      is_return c ≡ false → (fresh && eqb c 10) ≡ false →
      (is_tag_end c && ends_closing name text) ≡ false →
      (eqb c 38 && of kind.EscapableRaw name) ≡ false →
      (of kind.Script name ≡ false → depth ≡ 0) → script_depth depth text c ≡ depth →
      step (raw_in fresh depth since place text p) c
      ≡ raw_in false depth (min (since + 1) 255) (place + len_utf8 c) (text ++ c ∷ []) p
  tag_one fresh depth since place text c e0 n kept none plain outside stays =
      let same : next_depth name depth text c ≡ depth = decide (of kind.Script name)
      (λ e. ap (λ b. if b then script_depth depth text c else 0) e ∙ stays)
      (λ e. no_depth name depth text c e ∙ sym (outside e)) in
      raw_one fresh depth since place text c e0 n kept (not_ended depth since text c none) plain
      ∙ ap (λ d. raw_in false d (min (since + 1) 255) (place + len_utf8 c) (text ++ c ∷ []) p) same

  -- the end tag's name, with so many characters, as far as 255
  record NameRead (depth : ℕ) (q : PageReader) (cs text : List ℕ) (least : ℕ) : Type 0 where
    since : ℕ
    place : ℕ
    enough : (m : ℕ) → m ≤ 255 → m ≤ least → m ≤ since
    is : run q cs ≡ raw_in false depth since place text p

  module _ (depth : ℕ) (outside : of kind.Script name ≡ false → depth ≡ 0) where
    name_read : (since place : ℕ) (text cs : List ℕ) → all is_lower cs ≡ true →
        NameRead depth (raw_in false depth since place text p) cs (text ++ cs) (since + length cs)
    name_read since place text [] h = record {
      since = since;
      place = place;
      enough = λ m low near. omega (arith, near);
      is = ap (λ t. raw_in false depth since place t p) (sym (append-nil text));
    }
    name_read since place text (c ∷ cs) h =
        let both = and_parts _ _ h in
        let end = lower_no_end c both.0 in
        let one = tag_one false depth since place text c (other is_lower c 0 both.0 refl)
        (other is_lower c 13 both.0 refl) refl (and_left _ _ end)
        (and_left _ _ (other is_lower c 38 both.0 refl)) outside (script_stays depth text c
        (other is_lower c 45 both.0 refl) (other is_lower c 62 both.0 refl) end) in
        let more = name_read (min (since + 1) 255) (place + len_utf8 c) (text ++ c ∷ []) cs
        both.1 in
        record {
          since = more.since;
          place = more.place;
          enough = λ m low near. more.enough m low (omega (arith, low, near));
          is = rw (← append_assoc text (c ∷ []) cs) (ap (λ q. run q cs) one ∙ more.is);
        }

    -- at the end tag's `>`
    end_read : depth < 2 → (since place : ℕ) (s : List ℕ) (after : Page) → is_name name ≡ true →
        length (closing name) ≤ since → token_read (End name) (record p { text = s }) ≡ after →
        step (raw_in false depth since place (s ++ (codes "</" ++ name)) p) 62
        ≡ data_at false (place + 1) after
    end_read low since place s after named enough e =
        let k = length (closing name) in
        let x : List ℕ = s ++ (codes "</" ++ name) in
        let long : length x - k ≡ length s =
        omega (arith, length-append s (codes "</" ++ name), length-map name to_ascii_lowercase) in
        let cut : drop (length x - k) x ≡ codes "</" ++ name =
        ap (λ n. drop n x) long ∙ drop_at s (codes "</" ++ name) (length s) refl in
        let front : before_closing name x ≡ s =
        ap (λ n. take n x) long ∙ take_at s (codes "</" ++ name) (length s) refl in
        let ends : ends_closing name x ≡ true =
        (bytes_eq-Decides (map to_ascii_lowercase (drop (length x - k) x)) (closing name)).1
        (ap (map to_ascii_lowercase) cut) in
        let may : may_end name depth since ≡ true =
        and_from _ _ (lt-ltb depth 2 low) (le-leb k since enough) in
        let both = and_from _ _ may (and_from _ _ tag_ends.2 ends) in
        let ended : ended_name p.stack depth since x 62 ≡ Some name =
        ap (λ o. ended_of o depth since x 62) within.current
        ∙ ap (λ b. if b then Some name else None) both in
        rw (ended, front, named, e) refl

    -- an end tag behind the text
    tag_emits : depth < 2 → (fresh : Bool) (since place : ℕ) (s : List ℕ) → of kind.Raw name
        ≡ true → Emits (raw_in fresh depth since place s p) (end_tag_text name) (End name)
        (record p { text = s })
    tag_emits low fresh since place s raw =
        let lower = passes_of (all is_lower) kind.Raw name (unfold names in refl) raw in
        let chars = passes_of (all is_tag_char) kind.Raw name (unfold names in refl) raw in
        let named = passes_of is_name kind.Raw name (unfold names in refl) raw in
        let few : length name ≤ 8 = leb-true _ _
        (passes_of (λ n. nat_le (length n) 8) kind.Raw name (unfold names in refl) raw) in
        let less = tag_one fresh depth since place s 60 refl refl (and-false fresh)
        (and_left _ _ tag_ends.1) refl outside (script_stays depth s 60 refl refl tag_ends.1) in
        let early = and_right _ _ (no_end_at_less name s chars) in
        let slash = tag_one false depth (min (since + 1) 255) (place + 1) (s ++ 60 ∷ []) 47 refl
        refl refl early refl outside (slash_stays depth s low) in
        let read = name_read (min (min (since + 1) 255 + 1) 255) (place + 1 + 1)
        ((s ++ 60 ∷ []) ++ 47 ∷ []) name lower in
        let text_is : ((s ++ 60 ∷ []) ++ 47 ∷ []) ++ name ≡ s ++ (codes "</" ++ name) =
        append_assoc (s ++ 60 ∷ []) (47 ∷ []) name ∙ append_assoc s (60 ∷ []) (47 ∷ name) in
        let long : length (closing name) ≤ read.since =
        read.enough (length (closing name)) (omega (
          arith,
          few,
          length-map name to_ascii_lowercase,
        )) (omega (arith, length-map name to_ascii_lowercase)) in
        record {
          start = p.start;
          place = read.place;
          is = λ after e. ap (λ q. run q (47 ∷ (name ++ 62 ∷ []))) less
              ∙ (ap (λ q. run q (name ++ 62 ∷ [])) slash
              ∙ run_on _ _ _ name (62 ∷ []) read.is
              (ap (λ t. step (raw_in false depth read.since read.place t p) 62) text_is
              ∙ end_read low read.since read.place s after named long e));
        }

  -- the text itself
  record RawLeads (q : PageReader) (cs : List ℕ) (depth : ℕ) (text : List ℕ) : Type 0 where
    fresh : Bool
    since : ℕ
    place : ℕ
    is : run q cs ≡ raw_in fresh depth since place text p

  -- without references
  raw_more : (depth since place : ℕ) (x cs : List ℕ) → of kind.EscapableRaw name ≡ false →
      all is_text_char cs ≡ true → has_return cs ≡ false → holds_closing name (x ++ cs) ≡ false →
      RawLeads (raw_in false depth since place x p) cs (last_depth name depth x cs) (x ++ cs)
  raw_more depth since place x [] raw good n closes =
      record { fresh = false; since = since; place = place; is = rw (append-nil x) refl }
  raw_more depth since place x (c ∷ cs) raw good n closes =
      let both = and_parts _ _ good in
      let no = or_parts _ _ n in
      let one = raw_one false depth since place x c (other is_text_char c 0 both.0 refl) no.0 refl
      (not_ended depth since x c (none_ended name x c cs closes)) (and_right _ _ raw) in
      let joined = append_assoc x (c ∷ []) cs in
      let m = raw_more (next_depth name depth x c) (min (since + 1) 255) (place + len_utf8 c)
      (x ++ c ∷ []) cs raw both.1 no.1 (ap (holds_closing name) joined ∙ closes) in
      let read = ap (λ q. run q cs) one ∙ m.is in
      rw (← joined) (record { fresh = m.fresh; since = m.since; place = m.place; is = read })

  -- with references: no `<` was read since the last one, or since the begin
  record IsClean (text : List ℕ) (since : ℕ) : Type 0 where
    a : List ℕ
    b : List ℕ
    split : text ≡ a ++ b
    clean : all is_not_less b ≡ true
    reach : Reach a b since

  clean_first : (since : ℕ) → IsClean [] since
  clean_first since = record { a = []; b = []; split = refl; clean = refl; reach = inl refl }

  clean_longer : (x : List ℕ) (since c : ℕ) → IsClean x since → is_not_less c ≡ true →
      IsClean (x ++ c ∷ []) (min (since + 1) 255)
  clean_longer x since c k e = record {
    a = k.a;
    b = k.b ++ c ∷ [];
    split = ap (λ l. l ++ c ∷ []) k.split ∙ append_assoc k.a k.b (c ∷ []);
    clean = all_append is_not_less k.b (c ∷ []) k.clean (ap (λ b. b && true) e);
    reach = longer k.reach;
  } where
    longer : Reach k.a k.b since → Reach k.a (k.b ++ c ∷ []) (min (since + 1) 255)
    longer (inl e) = inl e
    longer (inr r) = inr (omega (arith, length-append k.b (c ∷ [])))

  no_early : (since : ℕ) (x : List ℕ) (c : ℕ) → IsClean x since →
      ended_of (Some name) 0 since x c ≡ None
  no_early since x c k = ap (λ t. if t then Some name else None) (false_from_ne_true _ (λ e.
      let both = and_parts _ _ e in
      let ends = and_parts _ _ both.1 in
      not_within name k.a k.b since k.clean k.reach (leb-true _ _ both.0)
      (sym (ap (ends_closing name) k.split) ∙ ends.1)))

  module _ (escapable : of kind.EscapableRaw name ≡ true) where
    record Escaped (q : PageReader) (cs text : List ℕ) : Type 0 where
      since : ℕ
      place : ℕ
      clean : IsClean text since
      is : run q cs ≡ raw_in false 0 since place text p

    module _ (fresh : Bool) (since place : ℕ) (x : List ℕ) (c : ℕ) (good : is_text_char c ≡ true)
        (no : is_return c ≡ false) (kept : (fresh && eqb c 10) ≡ false) where
      escaped_plain : IsClean x since → is_element_text_char c ≡ true →
          Escaped (raw_in fresh 0 since place x p) (c ∷ []) (x ++ c ∷ [])
      escaped_plain k plain =
          let e = is_plain_text_char c plain in
          record {
            since = min (since + 1) 255;
            place = place + len_utf8 c;
            clean = clean_longer x since c k (ap (λ b. if b then false else true) e.1);
            is = raw_one fresh 0 since place x c
                (other is_text_char c 0 good refl) no kept (no_early since x c k) (and_left _ _ e.0)
                ∙ ap (λ d. raw_in false d (min (since + 1) 255) (place + len_utf8 c)
                (x ++ c ∷ []) p) (no_depth name 0 x c (no_script name escapable));
          }

      escaped_reference : Escaped (raw_in fresh 0 since place x p) (reference_to c) (x ++ c ∷ [])
      escaped_reference =
          let inside : is_tag_end 38 ≡ false = unfold is_tag_end in refl in
          let ended : ended_name p.stack 0 since x 38 ≡ None = ap (λ o. ended_of o 0 since x 38)
          within.current ∙ not_ended 0 since x 38 (and_left _ _ inside) in
          let is_escapable : is_at (of kind.EscapableRaw) p.stack ≡ true =
          within.escapable ∙ escapable in
          let begun : step (raw_in fresh 0 since place x p) 38 ≡ record {
            state = Reference [] (Raw 0 since);
            reading = reading_at fresh (place + 1) (texted x p.start p);
          } = rw (ended, is_escapable) refl in
          let taken = takes c x p.start refl (other is_text_char c 0 good refl) in
          let read = reference_leads (Raw 0 since) (raw_in fresh 0 since place x p) fresh (place + 1)
          (texted x p.start p) c good no begun in
          record {
            since = 0;
            place = read.0 + 1;
            clean = record {
              a = x ++ c ∷ [];
              b = [];
              split = sym (append-nil (x ++ c ∷ []));
              clean = refl;
              reach = inr (omega arith);
            };
            is = read.1 ∙ rw (kept, taken) refl;
          }

      escaped_one : IsClean x since →
          Escaped (raw_in fresh 0 since place x p) (char_text (escaping_of false) c) (x ++ c ∷ [])
      escaped_one clean = decide (is_element_text_char c) (λ e. rw e (escaped_plain clean e))
          (λ e. rw e escaped_reference)

    escaped_more : (fresh : Bool) (since place : ℕ) (x cs : List ℕ) → IsClean x since →
        all is_text_char cs ≡ true → has_return cs ≡ false →
        (fresh ≡ true → begins_with_lf cs ≡ false) →
        RawLeads (raw_in fresh 0 since place x p) (escaped_text (escaping_of false) cs) 0 (x ++ cs)
    escaped_more fresh since place x [] clean good n kept =
        record { fresh = fresh; since = since; place = place; is = rw (append-nil x) refl }
    escaped_more fresh since place x (c ∷ cs) clean good n kept =
        let both = and_parts _ _ good in
        let no = or_parts _ _ n in
        let one = escaped_one fresh since place x c both.0 no.0 (not_dropped fresh c cs kept)
        clean in
        let m = escaped_more false one.since one.place (x ++ c ∷ []) cs one.clean both.1 no.1
        (nothing_dropped cs) in
        let read = run_on _ _ _ (char_text (escaping_of false) c)
        (escaped_text (escaping_of false) cs) one.is m.is in
        rw (← append_assoc x (c ∷ []) cs)
        (record { fresh = m.fresh; since = m.since; place = m.place; is = read })

    -- a line feed that is dropped
    feed_read : (place : ℕ) →
        step (raw_in true 0 0 place [] p) 10 ≡ raw_in false 0 1 (place + 1) [] p
    feed_read place =
        let ended : ended_name p.stack 0 0 [] 10 ≡ None =
        ap (λ o. ended_of o 0 0 [] 10) within.current ∙ no_early 0 [] 10 (clean_first 0) in
        let script : is_at (of kind.Script) p.stack ≡ false =
        within.script ∙ no_script name escapable in
        rw (ended, script) refl

    module _ (raw : of kind.Raw name ≡ true) (s : List ℕ) (good : all is_text_char s ≡ true)
        (no : has_return s ≡ false) where
      escaped_emits : (fresh : Bool) (since place : ℕ) → (fresh ≡ true → begins_with_lf s ≡ false) →
          Emits (raw_in fresh 0 since place [] p) (escaped_text (escaping_of false) s
          ++ end_tag_text name) (End name) (record p { text = s })
      escaped_emits fresh since place kept =
          let text = escaped_more fresh since place [] s (clean_first since) good no kept in
          emits_on (escaped_text (escaping_of false) s) text.is
          (tag_emits 0 (λ e. refl) (omega arith) text.fresh text.since text.place s raw)

      -- one whose text is written with references: `textarea`, `title`. A line feed in front is
      -- dropped where the start tag was one after which it is
      pub escapable_emits : (feed fresh : Bool) (place : ℕ) → (feed ≡ true → fresh ≡ true) →
          (fresh ≡ true → feed ≡ false → begins_with_lf s ≡ false) →
          Emits (raw_in fresh 0 0 place [] p) ((if feed then codes "\n" else [])
          ++ (escaped_text (escaping_of false) s ++ end_tag_text name)) (End name)
          (record p { text = s })
      escapable_emits true true place fed kept =
          emits_on (10 ∷ []) (feed_read place)
          (escaped_emits false 1 (place + 1) (nothing_dropped s))
      escapable_emits true false place fed kept = absurd (false≢true (fed refl))
      escapable_emits false fresh place fed kept = escaped_emits fresh 0 place (λ e. kept e refl)

  -- an element whose text is written as it is: `iframe`, `noembed`, `noframes`, `script`, `style`,
  -- `xmp`
  pub raw_emits : (s : List ℕ) (place : ℕ) → of kind.Raw name ≡ true → of kind.EscapableRaw name
      ≡ false → all is_text_char s ≡ true → has_return s ≡ false → holds_closing name s ≡ false →
      (of kind.Script name ≡ true → hides_end s ≡ false) →
      Emits (raw_in false 0 0 place [] p) (s ++ end_tag_text name) (End name)
      (record p { text = s })
  raw_emits s place is_raw raw good n closes shown =
      let text = raw_more 0 0 place [] s raw good n closes in
      emits_on s text.is (tag_emits (last_depth name 0 [] s) (no_depths name [] s)
      (end_low name s closes shown) text.fresh text.since text.place s is_raw)
