-- Spellings of names: what the sets of the program hold, and where a spelling leads.
use Rattle.std.proofs.Common.{◌≡◌, ◌<◌, ◌==◌, ℕ, List, [], ◌∷◌, All, Bool, true, false, not, ◌||◌, None, Some, chars, refl, sym, ap, subst, ◌∙◌, arith}
use Rattle.std.proofs.lemmas.Bool.{agree_below_at, and_parts, true≢false}
use Rattle.std.proofs.lemmas.{Str.{chars-encodes, chars-nil, encodes-chars, encodes-IsAscii, utf8_lossy-IsUtf8}, Bool.Decides.{nat_tests}}
use Rattle.std.proofs.lemmas.List.Elements.{All-nil, All-cons, All-append, All-head, All-tail, All-weaker}
use Rattle.std.specs.{List.{flat_map, list_any}, Prelude.{if◌then◌else◌, nat_lt, option_map}, Str.{IsUtf8}, Str.Lossy.{utf8_lossy}}
use lib.Utf8.{encode, encodes, scalar, scalars}
use Rattle.percent_encoding.proofs.PercentLemmas.{All-percent_encode, IsAscii_from_kept, IsByte, IsEscapeByte, percent_decode-nil, percent_encode_unchanged, round_trip}
use Rattle.percent_encoding.specs.AsciiSet.{contains, should_percent_encode}
use Rattle.percent_encoding.specs.{Percent.{IsKept, encode_byte, percent_decode, percent_encode}, declared.ascii_set.AsciiSet.{AsciiSet}}
use Rattle.html_links.proofs.CutFragments.{none_without_colon, nothing_cut}
use Rattle.html_links.specs.{Directives.{has_directive, without_directive}, HrefLaws.{LeadingHrefsLead, PlainHrefsLead}}
use Rattle.html_links.specs.Indicated.{LeadsTo, before_end, decoding, fragments_in, indicated_at, indicated_by, indicated_name, is_control_or_space, is_dropped, unless_empty, url_end, url_fragment}
use Rattle.html_links.specs.Spellings.{some_name, byte_encoding, encoding, href_with, is_any, is_in_colon_set, is_in_fragment_set, is_in_name_set, is_left, leading_spelling, name_encoding, plain_spelling}
use Rattle.html_links.specs.{TreeNames.{Name}, declared.spellings.TheConstants.{ANY, COLON, FRAGMENT, NAME}}

-- the sets

beyond : (set : AsciiSet) (b : ℕ) → nat_lt b 128 ≡ false → should_percent_encode set b ≡ true
unfolding should_percent_encode
beyond set b more = grind (arith, nat_tests)

-- a set that has the same bytes below 128, and whose test holds beyond
set_is : (set : AsciiSet) (is_in : ℕ → Bool) →
    ((b : ℕ) → b < 128 → should_percent_encode set b ≡ is_in b) →
    ((b : ℕ) → nat_lt b 128 ≡ false → is_in b ≡ true) →
    (b : ℕ) → should_percent_encode set b ≡ is_in b
set_is set is_in below past b = by (nat_lt b 128) refl
  where
    by : (small : Bool) → nat_lt b 128 ≡ small → should_percent_encode set b ≡ is_in b
    by true e = below b (grind (arith, nat_tests))
    by false e = beyond set b e ∙ sym (past b e)

past_fragment : (b : ℕ) → nat_lt b 128 ≡ false → is_in_fragment_set b ≡ true
past_fragment b more = rw (large b more) refl
  where
    large : (n : ℕ) → nat_lt n 128 ≡ false → nat_lt 126 n ≡ true
    large n e = grind (arith, nat_tests)

or_past : (x y : Bool) → y ≡ true → (x || y) ≡ true
or_past true y e = refl
or_past false y e = e

past_name : (b : ℕ) → nat_lt b 128 ≡ false → is_in_name_set b ≡ true
past_name b more = or_past (b == 37) (is_in_fragment_set b) (past_fragment b more)

pub fragment_set_is : (b : ℕ) → should_percent_encode FRAGMENT b ≡ is_in_fragment_set b
unfolding should_percent_encode
fragment_set_is = set_is FRAGMENT is_in_fragment_set
    (λ b small. agree_below_at (should_percent_encode FRAGMENT) is_in_fragment_set 128 b refl small)
    past_fragment

pub name_set_is : (b : ℕ) → should_percent_encode NAME b ≡ is_in_name_set b
unfolding should_percent_encode
name_set_is = set_is NAME is_in_name_set
    (λ b small. agree_below_at (should_percent_encode NAME) is_in_name_set 128 b refl small)
    past_name

pub colon_set_is : (b : ℕ) → should_percent_encode COLON b ≡ is_in_colon_set b
unfolding should_percent_encode
colon_set_is = set_is COLON is_in_colon_set
    (λ b small. agree_below_at (should_percent_encode COLON) is_in_colon_set 128 b refl small)
    (λ b more. or_past (b == 58) (is_in_name_set b) (past_name b more))

pub any_set_is : (b : ℕ) → should_percent_encode ANY b ≡ is_any b
unfolding should_percent_encode
any_set_is = set_is ANY is_any
    (λ b small. agree_below_at (should_percent_encode ANY) is_any 128 b refl small) (λ b more. refl)

-- a text is encoded by a set as by its test
pub encoding_is : (set : AsciiSet) (is_in : ℕ → Bool) →
    ((b : ℕ) → should_percent_encode set b ≡ is_in b) → (text : List ℕ) →
    percent_encode set (encodes text) ≡ encoding is_in text
unfolding percent_encode encoding
encoding_is set is_in same text = by (encodes text)
  where
    by : (bs : List ℕ) → flat_map (encode_byte set) bs ≡ flat_map (byte_encoding is_in) bs
    by [] = refl
    by (b ∷ bs) = rw (same b, by bs) refl

pub encoding_of_bytes : (set : AsciiSet) (is_in : ℕ → Bool) →
    ((b : ℕ) → should_percent_encode set b ≡ is_in b) → (bs : List ℕ) → IsUtf8 bs →
    percent_encode set bs ≡ encoding is_in (chars bs)
encoding_of_bytes set is_in same bs u =
    ap (percent_encode set) (sym (encodes-chars bs u)) ∙ encoding_is set is_in same (chars bs)

pub contains_fragment : (b : ℕ) → b < 128 → contains FRAGMENT b ≡ is_in_fragment_set b
contains_fragment b small =
    agree_below_at (contains FRAGMENT) is_in_fragment_set 128 b refl small

-- a character is written in bytes
char_bytes : (c : ℕ) → scalar c ≡ true → All IsByte (encode c)
unfolding encode
char_bytes c s = grind (arith, nat_tests)

pub text_bytes : (cs : List ℕ) → scalars cs ≡ true → All IsByte (encodes cs)
text_bytes [] s = All-nil IsByte
text_bytes (c ∷ cs) s =
    let both = and_parts (scalar c) (scalars cs) s in
    All-append IsByte (encode c) (encodes cs) (char_bytes c both.0) (text_bytes cs both.1)

-- spellings that a URL leaves as they are

abbrev AreKept : List ℕ → Type 0
AreKept = All (IsKept FRAGMENT)

-- a fragment that a browser takes whole, and leaves as it is
record IsWhole (f : List ℕ) : Type 0 where
  kept : AreKept f
  uncut : has_directive f ≡ false
  some : f ≡ [] → ⊥

as_it_is : (f : List ℕ) → IsWhole f → url_fragment f ≡ f
as_it_is f whole =
    ap (encoding is_in_fragment_set) (nothing_cut f whole.uncut)
    ∙ (sym (encoding_is FRAGMENT is_in_fragment_set fragment_set_is f)
    ∙ (ap (percent_encode FRAGMENT) (encodes-IsAscii f (IsAscii_from_kept FRAGMENT f whole.kept))
    ∙ percent_encode_unchanged FRAGMENT f whole.kept))

kept_is_no_blank : (c : ℕ) → is_in_fragment_set c ≡ false → is_control_or_space c ≡ false
kept_is_no_blank c e = grind (arith, nat_tests)

pub no_blank_is_kept : (c : ℕ) → is_control_or_space c ≡ false → is_dropped c ≡ false
no_blank_is_kept c e = grind (arith, nat_tests)

ends_itself : (cs : List ℕ) → AreKept cs → url_end cs ≡ cs
ends_itself [] kept = refl
ends_itself (c ∷ cs) kept =
    let shown = kept_is_no_blank c
    (sym (fragment_set_is c) ∙ All-head (IsKept FRAGMENT) c cs kept) in
    rw (no_blank_is_kept c shown)
    (ap (before_end c) (ends_itself cs (All-tail (IsKept FRAGMENT) c cs kept)) ∙ by cs shown)
  where
    by : (ds : List ℕ) → is_control_or_space c ≡ false → before_end c ds ≡ c ∷ ds
    by [] shown = rw shown refl
    by (d ∷ ds) shown = refl

taken : (f : List ℕ) → IsWhole f → fragments_in (href_with f) ≡ f ∷ []
taken f whole =
    ap unless_empty (ap without_directive (ends_itself f whole.kept) ∙ nothing_cut f whole.uncut)
    ∙ by f whole.some
  where
    by : (cs : List ℕ) → (cs ≡ [] → ⊥) → unless_empty cs ≡ cs ∷ []
    by [] some = absurd (some refl)
    by (c ∷ cs) some = refl

-- what a spelling indicates

module _ (is_place : Name → Bool) (name : Name) (there : is_place name ≡ true) where
  leads_there : (f : List ℕ) → IsWhole f → indicated_name is_place f ≡ Some name →
      LeadsTo is_place (href_with f) name
  leads_there f whole is = record { fragment = f; taken = taken f whole; indicates = is }

  at_some : (f : List ℕ) → (f ≡ [] → ⊥) →
      indicated_at is_place f ≡ indicated_by is_place f (chars (decoding f))
  at_some [] some = absurd (some refl)
  at_some (c ∷ cs) some = refl

  indicated_itself : (f : List ℕ) → IsWhole f →
      indicated_name is_place f ≡ indicated_by is_place f (chars (decoding f))
  unfolding indicated_name
  indicated_itself f whole =
      ap (indicated_at is_place) (as_it_is f whole) ∙ at_some f whole.some

  itself : IsWhole name → indicated_name is_place name ≡ Some name
  itself whole = indicated_itself name whole ∙ rw there refl

  as_decoded : (f : List ℕ) → IsWhole f → is_place f ≡ false → percent_decode f ≡ encodes name →
      scalars name ≡ true → indicated_name is_place f ≡ Some name
  unfolding decoding
  as_decoded f whole free decodes text =
      let same = ap chars (ap utf8_lossy decodes
      ∙ utf8_lossy-IsUtf8 (encodes name) (name, (text, refl))) ∙ chars-encodes name text in
      indicated_itself f whole ∙ (ap (indicated_by is_place f) same ∙ (rw (free, there) refl))

-- the name itself, where the fragment set leaves it

neither : (x y : Bool) → (x || y) ≡ false → (x ≡ false) × (y ≡ false)
neither true y e = cc
neither false y e = (refl, e)

all_kept : (cs : List ℕ) → list_any is_in_fragment_set cs ≡ false → AreKept cs
all_kept [] e = All-nil (IsKept FRAGMENT)
all_kept (c ∷ cs) e =
    let both = neither (is_in_fragment_set c) (list_any is_in_fragment_set cs) e in
    All-cons (IsKept FRAGMENT) c cs (fragment_set_is c ∙ both.0) (all_kept cs both.1)

is_left_parts : (name : Name) → is_left name ≡ true →
    (list_any is_in_fragment_set name ≡ false) × (has_directive name ≡ false)
is_left_parts name left =
    neither (list_any is_in_fragment_set name) (has_directive name)
    (by (list_any is_in_fragment_set name || has_directive name) left)
  where
    by : (b : Bool) → not b ≡ true → b ≡ false
    by true e = cc
    by false e = refl

left_is_kept : (name : Name) → is_left name ≡ true → AreKept name
left_is_kept name left = all_kept name (is_left_parts name left).0

-- encodings of a name

escape_is_kept : (b : ℕ) → IsEscapeByte b → IsKept FRAGMENT b
escape_is_kept b h = fragment_set_is b ∙ by b h
  where
    by : (n : ℕ) → IsEscapeByte n → is_in_fragment_set n ≡ false
    by n e = grind (arith, nat_tests)

second : (x y : Bool) → (x || y) ≡ false → y ≡ false
second x y e = (neither x y e).1

-- an encoding by a set that has the whole fragment set is kept
encoding_is_kept : (set : AsciiSet) (is_in : ℕ → Bool) →
    ((b : ℕ) → should_percent_encode set b ≡ is_in b) →
    ((b : ℕ) → is_in b ≡ false → is_in_fragment_set b ≡ false) →
    (text : List ℕ) → AreKept (encoding is_in text)
encoding_is_kept set is_in same wider text =
    subst AreKept (encoding_is set is_in same text)
    (All-percent_encode (IsKept FRAGMENT) set (encodes text)
    (λ b kept. fragment_set_is b ∙ wider b (sym (same b) ∙ kept)) escape_is_kept)

no_colon_in_escape : (b : ℕ) → IsEscapeByte b → (58 == b) ≡ false
no_colon_in_escape b e = grind (arith, nat_tests)

-- one by a set that has `:` has no directive
encoding_is_uncut : (set : AsciiSet) (is_in : ℕ → Bool) →
    ((b : ℕ) → should_percent_encode set b ≡ is_in b) →
    ((b : ℕ) → is_in b ≡ false → (58 == b) ≡ false) →
    (text : List ℕ) → has_directive (encoding is_in text) ≡ false
encoding_is_uncut set is_in same wider text =
    subst (λ f. has_directive f ≡ false) (encoding_is set is_in same text)
    (none_without_colon (percent_encode set (encodes text))
    (All-percent_encode (λ b. (58 == b) ≡ false) set (encodes text)
    (λ b kept. wider b (sym (same b) ∙ kept)) no_colon_in_escape))

-- one by a set that has `%` decodes to the text
encoding_decodes : (set : AsciiSet) (is_in : ℕ → Bool) →
    ((b : ℕ) → should_percent_encode set b ≡ is_in b) → contains set 37 ≡ true →
    (text : List ℕ) → scalars text ≡ true → percent_decode (encoding is_in text) ≡ encodes text
encoding_decodes set is_in same percent text is_text =
    ap percent_decode (sym (encoding_is set is_in same text))
    ∙ round_trip set (encodes text) percent (text_bytes text is_text)

no_colon : (b : ℕ) → is_in_colon_set b ≡ false → (58 == b) ≡ false
no_colon b e = flipped b (neither (b == 58) (is_in_name_set b) e).0
  where
    flipped : (n : ℕ) → (n == 58) ≡ false → (58 == n) ≡ false
    flipped n e = grind (arith, nat_tests)

nothing_left : {A : Type 0} → true ≡ false → A
nothing_left e = absurd (true≢false e)

-- what holds of both encodings holds of the plainest
plainest : (P : List ℕ → Type 0) (name : Name) →
    (has_directive (encoding is_in_name_set name) ≡ false → P (encoding is_in_name_set name)) →
    P (encoding is_in_colon_set name) → P (name_encoding name)
unfolding name_encoding
plainest P name plain colon = by (has_directive (encoding is_in_name_set name)) refl
  where
    by : (b : Bool) → has_directive (encoding is_in_name_set name) ≡ b →
        P (if b then encoding is_in_colon_set name else encoding is_in_name_set name)
    by true e = colon
    by false e = plain e

name_encoding_is_kept : (name : Name) → AreKept (name_encoding name)
name_encoding_is_kept name =
    plainest AreKept name
    (λ uncut. encoding_is_kept NAME is_in_name_set name_set_is
    (λ b. second (b == 37) (is_in_fragment_set b)) name)
    (encoding_is_kept COLON is_in_colon_set colon_set_is
    (λ b e. second (b == 37) (is_in_fragment_set b) (second (b == 58) (is_in_name_set b) e)) name)

name_encoding_is_uncut : (name : Name) → has_directive (name_encoding name) ≡ false
name_encoding_is_uncut name =
    plainest (λ f. has_directive f ≡ false) name (λ uncut. uncut)
    (encoding_is_uncut COLON is_in_colon_set colon_set_is no_colon name)

name_encoding_decodes : (name : Name) → scalars name ≡ true →
    percent_decode (name_encoding name) ≡ encodes name
name_encoding_decodes name text =
    plainest (λ f. percent_decode f ≡ encodes name) name
    (λ uncut. encoding_decodes NAME is_in_name_set name_set_is refl name text)
    (encoding_decodes COLON is_in_colon_set colon_set_is refl name text)

full_encoding_is_kept : (name : Name) → AreKept (encoding is_any name)
full_encoding_is_kept = encoding_is_kept ANY is_any any_set_is (λ b. nothing_left)

full_encoding_is_uncut : (name : Name) → has_directive (encoding is_any name) ≡ false
full_encoding_is_uncut = encoding_is_uncut ANY is_any any_set_is (λ b. nothing_left)

-- a spelling that decodes to a name which is not empty is not empty
decodes_to_some : (name f : List ℕ) → scalars name ≡ true → some_name (Some name) ≡ Some name →
    percent_decode f ≡ encodes name → f ≡ [] → ⊥
decodes_to_some [] f text some decodes none = cc
decodes_to_some (c ∷ cs) f text some decodes none =
    let bytes : encodes (c ∷ cs) ≡ [] =
    sym decodes ∙ (ap percent_decode none ∙ percent_decode-nil) in
    let empty : c ∷ cs ≡ [] =
    sym (chars-encodes (c ∷ cs) text) ∙ (ap chars bytes ∙ chars-nil) in
    cc

some_is_some : (name : Name) → some_name (Some name) ≡ Some name → name ≡ [] → ⊥
some_is_some [] some e = cc
some_is_some (c ∷ cs) some e = cc

module _ (is_place : Name → Bool) (name : Name) (text : scalars name ≡ true)
    (some : some_name (Some name) ≡ Some name) (there : is_place name ≡ true) where
  left_leads : is_left name ≡ true → LeadsTo is_place (href_with name) name
  left_leads left =
      let whole : IsWhole name = record {
        kept = left_is_kept name left;
        uncut = (is_left_parts name left).1;
        some = some_is_some name some;
      } in
      leads_there is_place name there name whole (itself is_place name there whole)

  encoding_is_whole : (f : List ℕ) → AreKept f → has_directive f ≡ false →
      percent_decode f ≡ encodes name → IsWhole f
  encoding_is_whole f kept uncut decodes = record {
    kept = kept;
    uncut = uncut;
    some = decodes_to_some name f text some decodes;
  }

  encoding_leads : (f : List ℕ) → AreKept f → has_directive f ≡ false →
      percent_decode f ≡ encodes name → is_place f ≡ false → LeadsTo is_place (href_with f) name
  encoding_leads f kept uncut decodes free =
      let whole = encoding_is_whole f kept uncut decodes in
      leads_there is_place name there f whole (as_decoded is_place name there f whole free decodes text)

  name_encoding_leads : is_place (name_encoding name) ≡ false →
      LeadsTo is_place (href_with (name_encoding name)) name
  name_encoding_leads =
      encoding_leads (name_encoding name) (name_encoding_is_kept name) (name_encoding_is_uncut name)
      (name_encoding_decodes name text)

  full_encoding_leads : is_place (encoding is_any name) ≡ false →
      LeadsTo is_place (href_with (encoding is_any name)) name
  full_encoding_leads =
      encoding_leads (encoding is_any name) (full_encoding_is_kept name) (full_encoding_is_uncut name)
      (encoding_decodes ANY is_any any_set_is refl name text)

  chosen_leads : (left a b : Bool) → is_left name ≡ left →
      is_place (name_encoding name) ≡ a → is_place (encoding is_any name) ≡ b →
      (href : List ℕ) → option_map href_with (if left then Some name
      else (if a then (if b then None else Some (encoding is_any name))
      else Some (name_encoding name))) ≡ Some href →
      LeadsTo is_place href name
  chosen_leads true a b l x y href is =
      let same : href_with name ≡ href = cc in
      subst (λ h. LeadsTo is_place h name) same (left_leads l)
  chosen_leads false false b l x y href is =
      let same : href_with (name_encoding name) ≡ href = cc in
      subst (λ h. LeadsTo is_place h name) same (name_encoding_leads x)
  chosen_leads false true false l x y href is =
      let same : href_with (encoding is_any name) ≡ href = cc in
      subst (λ h. LeadsTo is_place h name) same (full_encoding_leads y)
  chosen_leads false true true l x y href is = cc

  plain_leads : (left : Bool) → is_left name ≡ left →
      (is_place (if left then name else name_encoding name) ≡ true →
      (if left then name else name_encoding name) ≡ name) →
      LeadsTo is_place (href_with (if left then name else name_encoding name)) name
  plain_leads true l alone = left_leads l
  plain_leads false l alone = by (is_place (name_encoding name)) refl
    where
      by : (b : Bool) → is_place (name_encoding name) ≡ b →
          LeadsTo is_place (href_with (name_encoding name)) name
      by false e = name_encoding_leads e
      by true e =
          let same = alone e in
          let whole = subst IsWhole same (encoding_is_whole (name_encoding name)
          (name_encoding_is_kept name) (name_encoding_is_uncut name) (name_encoding_decodes name text)) in
          subst (λ f. LeadsTo is_place (href_with f) name) (sym same)
          (leads_there is_place name there name whole (itself is_place name there whole))

pub leading_hrefs_lead : LeadingHrefsLead
unfolding leading_spelling
leading_hrefs_lead is_place name href text some there =
    chosen_leads is_place name text some there (is_left name)
    (is_place (name_encoding name)) (is_place (encoding is_any name)) refl refl refl href

pub plain_hrefs_lead : PlainHrefsLead
unfolding plain_spelling
plain_hrefs_lead is_place name text some there alone =
    plain_leads is_place name text some there (is_left name) refl alone

-- each character of the spelling that is chosen is left as it is
abbrev pub ArePlain : List ℕ → Type 0
ArePlain = All (λ c. is_in_fragment_set c ≡ false)

kept_are_plain : (f : List ℕ) → AreKept f → ArePlain f
kept_are_plain f = All-weaker (IsKept FRAGMENT) (λ c. is_in_fragment_set c ≡ false)
    (λ c kept. sym (fragment_set_is c) ∙ kept) f

pub leading_is_plain : (is_place : Name → Bool) (name f : List ℕ) →
    leading_spelling is_place name ≡ Some f → ArePlain f
unfolding leading_spelling
leading_is_plain is_place name f =
    by (is_left name) (is_place (name_encoding name)) (is_place (encoding is_any name)) refl
  where
    by : (left a b : Bool) → is_left name ≡ left → (if left then Some name
        else (if a then (if b then None else Some (encoding is_any name))
        else Some (name_encoding name))) ≡ Some f → ArePlain f
    by true a b l is =
        let same : name ≡ f = cc in
        subst ArePlain same (kept_are_plain name (left_is_kept name l))
    by false false b l is =
        let same : name_encoding name ≡ f = cc in
        subst ArePlain same (kept_are_plain _ (name_encoding_is_kept name))
    by false true false l is =
        let same : encoding is_any name ≡ f = cc in
        subst ArePlain same (kept_are_plain _ (full_encoding_is_kept name))
    by false true true l is = cc
