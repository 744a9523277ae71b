-- Stretches of characters that are read at once, as the reader of the definition reads them.
use Rattle.std.proofs.Common.{◌≡◌, ℕ, ◌+◌, ◌-◌, ◌<◌, ◌≤◌, Bool, true, false, not, List, [], ◌∷◌, ◌++◌, chars, drop, get_or, length, take, inl, inr, refl, sym, ap, subst, ◌∙◌, arith, append-nil, append_assoc}
use Rattle.std.proofs.lemmas.{Bool.{and_parts, false≢true, not-true}, List.{take-append-drop}, Result.{IfOk-weaker}}
use Rattle.std.proofs.lemmas.{Str.{chars-append, encode_ascii, encodes-chars, IsUtf8-take}, Bool.Decides.{nat_tests}}
use Rattle.std.proofs.lemmas.{List.Folds.{list_all-append}, Str.Ascii.{IsAscii-nil, IsAscii-cons}}
use Rattle.std.specs.{Borrow.{Bor}, List.{list_all}, Prelude.{Option, None, Result, IfOk}, Str.{IsUtf8, IsAscii, IsCharBoundary}}
use lib.Utf8.{encode, encodes}
use Rattle.html_names_core.specs.Characters.{is_tag_char, is_attr_char}
use Rattle.html_dom_tree.specs.{Tree.{TextPair, ElementView}, declared.node.HtmlElement.{HtmlElement}}
use Rattle.typst_html_encode.specs.Reader.{Open, ReaderState, Content, Reference, Value, ValueReference, StartName, AttrName, Less, Stop, final_root}
use Rattle.typst_html_read.proofs.{Loops.{deep_here, deep_later, deep_stopped, stop_here, stop_later}, Names.{taken, outcome, stopped}}
use Rattle.typst_html_read.proofs.Refusals.{next_outcome, next_taken}
use Rattle.typst_html_read.specs.{Endings.{Gives}, LimitedReading.{next_state, begins_deep, deep_places, is_stop, stop_place}}
use Rattle.typst_html_read.specs.PlainElements.{accepted}
use Rattle.typst_html_read.specs.Stretches.{all_grow, continues, is_plain, Splits, Adds, next_states, runs_on, ReadsOn}
use Rattle.typst_html_read.specs.declared.fault.ReadFault.{ReadFault}

-- splitting a text at a byte

-- all characters are of a class that has all beyond ASCII, where all bytes are
all_encoded : (p : ℕ → Bool) → ((c : ℕ) → 128 ≤ c → p c ≡ true) → (cs : List ℕ) →
    list_all p (encodes cs) ≡ true → list_all p cs ≡ true
all_encoded p wide [] h = refl
all_encoded p wide (c ∷ cs) h = grind (
  arith,
  list_all-append p (encode c) (encodes cs),
  encode_ascii c,
  wide c,
  all_encoded p wide cs,
)

-- a class of ASCII alone or with all beyond it
pub record IsByBytes (p : ℕ → Bool) : Type 0 where
  pub all : (bs : List ℕ) → IsUtf8 bs → list_all p bs ≡ true → list_all p (chars bs) ≡ true

pub split_at : (p : ℕ → Bool) (text : List ℕ) (n : ℕ) → IsByBytes p → IsUtf8 text →
    IsCharBoundary text n → list_all p (take n text) ≡ true → (front rest : List ℕ) →
    front ≡ take n text → rest ≡ drop n text → Splits p (chars text) (chars front) (chars rest)
split_at p text n by u cut h front rest e k =
    let v = IsUtf8-take text n u cut in
    rw (e, k) record {
      parts = ap chars (sym (take-append-drop n text)) ∙ chars-append (take n text) (drop n text) v;
      within = by.all (take n text) v h;
    }

plain_wide : (end c : ℕ) → end < 128 → 128 ≤ c → is_plain end c ≡ true
plain_wide end c h k = grind (arith, nat_tests)

pub plain_bytes : (end : ℕ) → end < 128 → IsByBytes (is_plain end)
plain_bytes end h = record {
  all = λ bs u k. all_encoded (is_plain end) (λ c l. plain_wide end c h l) (chars bs)
      (ap (list_all (is_plain end)) (encodes-chars bs u) ∙ k);
}

pub plain_cut : (end : ℕ) (text : List ℕ) (at : ℕ) → end < 128 → at ≤ length text →
    (at < length text → is_plain end (get_or text at 0) ≡ false) → IsCharBoundary text at
plain_cut end text at h within stops =
    (within, λ l k. absurd (false≢true (sym (stops l) ∙ plain_wide end (get_or text at 0) h k)))

tag_small : (c : ℕ) → is_tag_char c ≡ true → c < 128
tag_small c h = grind (arith, nat_tests)

pub names_ascii : (bs : List ℕ) → list_all is_tag_char bs ≡ true → IsAscii bs
names_ascii [] h = IsAscii-nil
names_ascii (b ∷ bs) h =
    IsAscii-cons b bs (tag_small b (grind arith)) (names_ascii bs (grind arith))

-- what is read of a stretch

-- a state that grows by each such character
pub record Grows (class : List ℕ → ℕ → Bool) (f : List ℕ → ReaderState) : Type 0 where
  pub adds : (t : List ℕ) (c : ℕ) → class t c ≡ true → next_state (f t) c ≡ f (t ++ c ∷ [])
  pub flat : (t : List ℕ) (c : ℕ) → begins_deep 0 (f t) c ≡ false
  pub stays : (t : List ℕ) → is_stop (f t) ≡ false

pub grown : (class : List ℕ → ℕ → Bool) (f : List ℕ → ReaderState) → Grows class f →
    (front t : List ℕ) → all_grow class t front ≡ true →
    (runs_on (f t) front ≡ true) × (f (t ++ front) ≡ next_states (f t) front)
grown class f g [] t h = (refl, ap f (append-nil t))
grown class f g (c ∷ front) t h =
    let both = and_parts (class t c) (all_grow class (t ++ c ∷ []) front) h in
    let step = g.adds t c both.0 in
    let more = grown class f g front (t ++ c ∷ []) both.1 in
    let still : is_stop (next_state (f t) c) ≡ false = ap is_stop step ∙ g.stays (t ++ c ∷ []) in (
      rw (g.flat t c, still) (ap (λ s. runs_on s front) step ∙ more.0),
      ap f (sym (append_assoc t (c ∷ []) front))
          ∙ (more.1 ∙ ap (λ s. next_states s front) (sym step)),
    )

pub reads_on : (class : List ℕ → ℕ → Bool) (f : List ℕ → ReaderState) → Grows class f →
    (old new text rest : List ℕ) → Adds class old new text rest → ReadsOn (f old) (f new) text rest
reads_on class f g old new text rest h =
    let both = grown class f g h.front old h.within in
    record {
      front = h.front;
      parts = h.parts;
      runs = both.0;
      state = ap f h.added ∙ both.1;
    }

-- the same where a mode of the reader says which state that is
pub read_at : {class : List ℕ → ℕ → Bool} {f : List ℕ → ReaderState} {M E : Type 0} {m n : M}
    {old new : List ℕ} (g : Grows class f) (from to : M → ReaderState) (text : List ℕ)
    (r : Result (Bor (List ℕ)) E) → m ≡ n → from n ≡ f old → to n ≡ f new →
    IfOk r (λ rest. Adds class old new text (chars rest.now)) →
    IfOk r (λ rest. ReadsOn (from m) (to m) text (chars rest.now))
read_at {class} {f} {n = n} {old} {new} g from to text r is e k h =
    subst (λ m. IfOk r (λ rest. ReadsOn (from m) (to m) text (chars rest.now))) (sym is)
    (subst (λ s. IfOk r (λ rest. ReadsOn s (to n) text (chars rest.now))) (sym e)
    (subst (λ s. IfOk r (λ rest. ReadsOn (f old) s text (chars rest.now))) (sym k)
    (IfOk-weaker r _ _ (λ rest h. reads_on class f g old new text (chars rest.now) h) h)))

pub all_alike : (class : ℕ → Bool) (front t : List ℕ) → list_all class front ≡ true →
    all_grow (λ _. class) t front ≡ true
all_alike class [] t h = refl
all_alike class (c ∷ front) t h = grind (arith, all_alike class front (t ++ c ∷ []))

pub reads_none : (s : ReaderState) (text : List ℕ) → ReadsOn s s text text
reads_none s text = record { front = []; parts = refl; runs = refl; state = refl }

pub in_text : (stack : List Open) → Grows (λ _. is_plain 60) (λ t. Content t stack)
in_text stack = record {
  adds = λ t c h. grind (arith, nat_tests);
  flat = λ t c. refl;
  stays = λ t. refl;
}

pub in_value : (name : List ℕ) (attrs : List TextPair) (attr : List ℕ) (stack : List Open) →
    Grows (λ _. is_plain 34) (λ t. Value name attrs attr t stack)
in_value name attrs attr stack = record {
  adds = λ t c h. grind (arith, nat_tests);
  flat = λ t c. refl;
  stays = λ t. refl;
}

pub in_start_name : (stack : List Open) → Grows (λ _. is_tag_char) (λ t. StartName t stack)
in_start_name stack = record {
  adds = λ t c h. rw h refl;
  flat = λ t c. refl;
  stays = λ t. refl;
}

tag_attr : (c : ℕ) → is_tag_char c ≡ true → is_attr_char c ≡ true
tag_attr c h = grind (arith, nat_tests)

pub in_attr_name : (name : List ℕ) (attrs : List TextPair) (stack : List Open) →
    Grows (λ _. is_tag_char) (λ t. AttrName name attrs t stack)
in_attr_name name attrs stack = record {
  adds = λ t c h. let valid = tag_attr c h in rw valid refl;
  flat = λ t c. refl;
  stays = λ t. refl;
}

pub in_reference : (text : List ℕ) (stack : List Open) →
    Grows continues (λ t. Reference text t stack)
in_reference text stack = record {
  adds = λ t c h. grind (arith, nat_tests);
  flat = λ t c. refl;
  stays = λ t. refl;
}

pub in_value_reference : (name : List ℕ) (attrs : List TextPair) (attr value : List ℕ)
    (stack : List Open) → Grows continues (λ t. ValueReference name attrs attr value t stack)
in_value_reference name attrs attr value stack = record {
  adds = λ t c h. grind (arith, nat_tests);
  flat = λ t c. refl;
  stays = λ t. refl;
}

-- all that is read of a text before which so many characters stand

abbrev pub Reading : Type 0
Reading = Option ElementView × List ℕ × ℕ

abbrev pub reading : (limit before : ℕ) → ReaderState → List ℕ → Reading
reading limit before s cs = (outcome s cs, deep_places limit before s cs, stop_place before s cs)

abbrev pub GivesReading : Result HtmlElement ReadFault → (text : List ℕ) → Reading → Type 0
GivesReading r text read = Gives r text read.0 read.1 read.2

-- where no start tag begins, none begins too deep
flat_at : (limit : ℕ) (s : ReaderState) (c : ℕ) → begins_deep 0 s c ≡ false →
    begins_deep limit s c ≡ false
flat_at limit (Less stack) c h = grind (arith, nat_tests)
flat_at limit s c h = h

-- of a text that is so long, of which that is read, the rest is read from the state on
pub record Goes (limit total : ℕ) (whole : Reading) (s : ReaderState) (rest : List ℕ) : Type 0 where
  pub same : reading limit (total - length rest) s rest ≡ whole
  pub names : taken s ≡ true
  pub room : 15 + length rest ≤ total

module _ {limit total : ℕ} {whole : Reading} where
  -- behind a character at which reading goes on
  pub goes_one : {s t : ReaderState} {past : List ℕ} (c : ℕ) (cs : List ℕ) →
      Goes limit total whole s past → past ≡ c ∷ cs → begins_deep limit s c ≡ false →
      t ≡ next_state s c → is_stop t ≡ false → Goes limit total whole t cs
  goes_one {s} {t} {past} c cs g e flat step runs =
      let before = total - length past in
      let more : total - length cs ≡ before + 1 = omega (arith, g.room, ap length e) in
      let room : 15 + length cs ≤ total = omega (arith, g.room, ap length e) in
      let goes : is_stop (next_state s c) ≡ false = ap is_stop (sym step) ∙ runs in
      let one : reading limit (before + 1) (next_state s c) cs ≡ reading limit before s (c ∷ cs) =
      λ i. (
        next_outcome s c cs g.names i,
        sym (deep_later limit before s c cs flat) i,
        sym (stop_later before s c cs goes) i,
      ) in
      subst (λ u. Goes limit total whole u cs) (sym step) (record {
        same = ap (λ n. reading limit n (next_state s c) cs) more
            ∙ (one ∙ (ap (reading limit before s) (sym e) ∙ g.same));
        names = elim (next_taken s c g.names) [
          | inl h ↦ absurd (false≢true (sym goes ∙ ap is_stop h))
          | inr h ↦ h
        ];
        room = room;
      })

  goes_many : (front cs : List ℕ) (s : ReaderState) → Goes limit total whole s (front ++ cs) →
      runs_on s front ≡ true → Goes limit total whole (next_states s front) cs
  goes_many [] cs s g h = g
  goes_many (c ∷ front) cs s g h =
      let both = and_parts _ (runs_on (next_state s c) front) h in
      let here = and_parts (not (begins_deep 0 s c)) (not (is_stop (next_state s c))) both.0 in
      let flat = flat_at limit s c (not-true (begins_deep 0 s c) here.0) in
      goes_many front cs (next_state s c) (goes_one c (front ++ cs) g refl flat refl
      (not-true (is_stop (next_state s c)) here.1)) both.1

  pub goes_on : {s t u : ReaderState} {cs ds : List ℕ} → Goes limit total whole s cs →
      ReadsOn s t cs ds → u ≡ t → Goes limit total whole u ds
  goes_on {s} {ds = ds} g h e = subst (λ u. Goes limit total whole u ds) (sym (e ∙ h.state))
      (goes_many h.front ds s (subst (Goes limit total whole s) h.parts g) h.runs)

  -- what is read where an element stands too deep, where reading stops, and at the end

  pub whole_deep : {s : ReaderState} {past : List ℕ} (c : ℕ) (cs : List ℕ) →
      Goes limit total whole s past → past ≡ c ∷ cs → begins_deep limit s c ≡ true →
      whole.1 ≡ (total - length past - 1)
      ∷ deep_places limit (total - length past + 1) (next_state s c) cs
  whole_deep {s} {past} c cs g e deep =
      let before = total - length past in
      sym (ap (λ r. r.1) g.same)
      ∙ (ap (deep_places limit before s) e ∙ deep_here limit before s c cs deep)

  pub whole_stopped : {s : ReaderState} {past : List ℕ} (c : ℕ) (cs : List ℕ) →
      Goes limit total whole s past → past ≡ c ∷ cs → begins_deep limit s c ≡ false →
      next_state s c ≡ Stop → whole ≡ (None, [], total - length past)
  whole_stopped {s} {past} c cs g e flat stop =
      let before = total - length past in
      let none : outcome s (c ∷ cs) ≡ None = sym (next_outcome s c cs g.names)
      ∙ (ap (λ t. outcome t cs) stop ∙ stopped cs) in
      let shallow : deep_places limit before s (c ∷ cs) ≡ [] = deep_later limit before s c cs flat
      ∙ (ap (λ t. deep_places limit (before + 1) t cs) stop
      ∙ deep_stopped limit (before + 1) cs) in
      sym g.same ∙ (ap (reading limit before s) e
      ∙ (λ i. (none i, shallow i, stop_here before s c cs stop i)))

  pub whole_ended : {s : ReaderState} {past : List ℕ} → Goes limit total whole s past → past ≡ [] →
      whole ≡ (accepted (final_root s), [], total - length past)
  unfolding deep_places stop_place
  whole_ended {s} {past} g e = sym g.same ∙ ap (reading limit (total - length past) s) e
