-- Stretches of common characters are read as these characters one by one.
use Rattle.std.proofs.Common.{◌≡◌, ℕ, ◌+◌, ◌-◌, ◌<◌, Bool, true, false, not, ◌&&◌, ◌||◌, List, [], ◌∷◌, ◌++◌, chars, length, eqb, ne_eqb, refl, sym, ap, ◌∙◌, arith, append_assoc, append-nil}
use Rattle.std.proofs.lemmas.{Bool.{and_parts, false≢true}, Str.{len_utf8_ascii}}
use Rattle.html_names_core.specs.Characters.{all}
use Rattle.html_text.{proofs.Fronts.{common_small}, specs.Fronts.{CutsAll, is_common}}
use Rattle.html_page_read.specs.{PageReaderViews.{state_at}, PageReading.{run}}
use Rattle.html_page_read.specs.PageStretches.{behind_char, behind_chars, behind_stretch, in_data, in_quotes, ReadsFront, TakesCommon}
use Rattle.html_page_read.specs.PageTokens.{TagDraft, TokenState, Value, PageReader, Reading, goes, moved, step}
use Rattle.html_page_read.specs.declared.reader.{Reader.{Reader}, State.{State}}
use Rattle.html_page_read.specs.declared.reader.State.TheVariants as state
use Rattle.html_page_read.specs.declared.reading.Reading as declared
use Rattle.html_page_stack.specs.{Pages.{Page, Char}, declared.modes.Mode.{Mode}}
use Rattle.html_page_stack.specs.declared.modes.Mode.TheVariants.{InText}
use Rattle.html_page_tree.proofs.TakenTexts.{text_taken}
use Rattle.html_page_tree.specs.{PageBodies.{is_barred}, PageTrees.{is_foreign_token, is_unseen, page_mode}, TakenTexts.{mode_takes_text, takes_text}}
use Rattle.html_page_read.proofs.Fronts.{front_read}

-- a character of a kind is none that is not of it
pub other : (is : ℕ → Bool) (c d : ℕ) → is c ≡ true → is d ≡ false → eqb c d ≡ false
other is c d h k = ne_eqb c d (λ e. false≢true (sym k ∙ (ap is (sym e) ∙ h)))

mode_kept : (m : Mode) (text : List ℕ) (s : ℕ) (p : Page) →
    mode_takes_text m (record p { text = text; start = s }) ≡ mode_takes_text m p
mode_kept InText text s p = refl
mode_kept _ text s p = refl

taken_still : (text : List ℕ) (s : ℕ) (p : Page) →
    takes_text (record p { text = text; start = s }) ≡ takes_text p
unfolding takes_text
taken_still text s p =
    ap (λ b. (not (is_unseen p.tables) && is_barred p.framesets)
    && (is_foreign_token (Char 0) p.stack || b))
    (mode_kept (page_mode p) text s p)

char_step : (c : ℕ) (r : Reading) → is_common c ≡ true → r.fresh ≡ false →
    takes_text r.page ≡ true → step (in_data r) c ≡ in_data (behind_char c r)
unfolding is_common
char_step c r h f t =
    let some = other is_common c 0 h refl in
    let taken = text_taken c (record r.page { start = r.place }) some
    (taken_still r.page.text r.place r.page ∙ t) in
    rw (
      some,
      other is_common c 10 h refl,
      other is_common c 13 h refl,
      other is_common c 60 h refl,
      other is_common c 38 h refl,
      len_utf8_ascii c (common_small c h),
      f,
      taken,
    ) refl

pub front_run : (front cs : List ℕ) (r : Reading) → all is_common front ≡ true →
    r.fresh ≡ false → takes_text r.page ≡ true →
    run (in_data r) (front ++ cs) ≡ run (in_data (behind_stretch front r)) cs
front_run [] cs r h f t = refl
front_run (c ∷ front) cs r h f t =
    let both = and_parts (is_common c) (all is_common front) h in
    ap (λ q. run q (front ++ cs)) (char_step c r both.0 f t)
    ∙ front_run front cs (behind_char c r) both.1 refl
    (taken_still (r.page.text ++ c ∷ []) r.place r.page ∙ t)

-- a character of ASCII but U+0000 and the ends of lines, by which a state is left for another
pub plain_step : (s t : TokenState) (c : ℕ) (r : Reading) → eqb c 0 ≡ false → eqb c 10 ≡ false →
    eqb c 13 ≡ false → c < 128 → moved s c r ≡ goes t r →
    step (record { state = s; reading = r }) c
    ≡ record { state = t; reading = behind_chars (c ∷ []) r }
plain_step s t c r zero feed return small h =
    let one = len_utf8_ascii c small in rw (zero, feed, return, h, one) refl

-- a state that holds the characters that it has read, to which it adds one by one
module _ (f : List ℕ → TokenState) (ok : ℕ → Bool)
    (one : (xs : List ℕ) (c : ℕ) (r : Reading) → ok c ≡ true →
    step (record { state = f xs; reading = r }) c
    ≡ record { state = f (xs ++ c ∷ []); reading = behind_chars (c ∷ []) r }) where
  pub grow_run : (xs cs ds : List ℕ) (r : Reading) → all ok cs ≡ true →
      run (record { state = f xs; reading = r }) (cs ++ ds)
      ≡ run (record { state = f (xs ++ cs); reading = behind_chars cs r }) ds
  grow_run xs [] ds r h =
      ap (λ l. run (record { state = f l; reading = r }) ds) (sym (append-nil xs))
  grow_run xs (c ∷ cs) ds r h =
      let both = and_parts (ok c) (all ok cs) h in
      ap (λ q. run q (cs ++ ds)) (one xs c r both.0)
      ∙ (grow_run (xs ++ c ∷ []) cs ds (behind_chars (c ∷ []) r) both.1
      ∙ ap (λ l. run (record { state = f l; reading = behind_chars (c ∷ cs) r }) ds)
      (append_assoc xs (c ∷ []) cs))

quoted_step : (tag : TagDraft) (attr value : List ℕ) (c : ℕ) (r : Reading) →
    is_common c ≡ true → step (in_quotes tag attr value r) c
    ≡ in_quotes tag attr (value ++ c ∷ []) (behind_chars (c ∷ []) r)
unfolding is_common
quoted_step tag attr value c r h =
    plain_step (Value tag attr value 34) (Value tag attr (value ++ c ∷ []) 34) c r
    (other is_common c 0 h refl) (other is_common c 10 h refl) (other is_common c 13 h refl)
    (common_small c h) (rw (other is_common c 34 h refl, other is_common c 38 h refl) refl)

pub quoted_run : (front cs : List ℕ) (tag : TagDraft) (attr value : List ℕ) (r : Reading) →
    all is_common front ≡ true → run (in_quotes tag attr value r) (front ++ cs)
    ≡ run (in_quotes tag attr (value ++ front) (behind_chars front r)) cs
quoted_run front cs tag attr value r h = grow_run (λ v. Value tag attr v 34) is_common
    (quoted_step tag attr) value front cs r h

pub chars_form : (c : ℕ) (cs : List ℕ) (r : Reading) → behind_chars (c ∷ cs) r
    ≡ record r { place = r.place + length (c ∷ cs); after_return = false }
chars_form c [] r = refl
chars_form c (d ∷ ds) r =
    chars_form d ds (record r { place = r.place + 1; after_return = false })
    ∙ ap (λ n. record r { place = n; after_return = false })
    {x = r.place + 1 + length (d ∷ ds)} {y = r.place + length (c ∷ d ∷ ds)} (omega arith)

pub chars_some : (front : List ℕ) (r : Reading) → eqb (length front) 0 ≡ false →
    behind_chars front r
    ≡ record r { place = r.place + length front; after_return = false }
chars_some [] r h = absurd (false≢true (sym h))
chars_some (c ∷ cs) r h = chars_form c cs r

pub chars_place : (front : List ℕ) (r : Reading) →
    (behind_chars front r).place ≡ r.place + length front
chars_place [] r = omega arith
chars_place (c ∷ cs) r = ap (λ r. r.place) (chars_form c cs r)

abbrev pub grown : Reading → (text : List ℕ) (start place : ℕ) → Reading
grown r text start place = record {
  page = record r.page { text = text; start = start };
  place = place;
  fresh = false;
  after_return = false;
}

-- behind such a stretch
pub stretch_form : (c : ℕ) (cs : List ℕ) (r : Reading) → behind_stretch (c ∷ cs) r
    ≡ grown r (r.page.text ++ c ∷ cs) (r.place + length cs) (r.place + length (c ∷ cs))
stretch_form c [] r =
    ap (λ s. grown r (r.page.text ++ c ∷ []) s (r.place + 1)) {x = r.place} {y = r.place + 0}
    (omega arith)
stretch_form c (d ∷ ds) r =
    let start : r.place + 1 + length ds ≡ r.place + length (d ∷ ds) = omega arith in
    let place : r.place + 1 + length (d ∷ ds) ≡ r.place + length (c ∷ d ∷ ds) = omega arith in
    stretch_form d ds (behind_char c r)
    ∙ (λ i. grown r (append_assoc r.page.text (c ∷ []) (d ∷ ds) i) (start i) (place i))

pub stretch_some : (front : List ℕ) (r : Reading) → eqb (length front) 0 ≡ false →
    behind_stretch front r
    ≡ grown r (r.page.text ++ front) (r.place + (length front - 1)) (r.place + length front)
stretch_some [] r h = absurd (false≢true (sym h))
stretch_some (c ∷ cs) r h = stretch_form c cs r
    ∙ ap (λ s. grown r (r.page.text ++ c ∷ cs) s (r.place + length (c ∷ cs)))
    {x = r.place + length cs} {y = r.place + (length (c ∷ cs) - 1)} (omega arith)

-- the reading is no part of the state
pub state_kept : (s : State) (r : Reader) (x : declared.Reading) →
    state_at s (record r { reading = x }) ≡ state_at s r
state_kept state.Data r x = refl
state_kept _ r x = refl

pub stretch_place : (front : List ℕ) (r : Reading) →
    (behind_stretch front r).place ≡ r.place + length front
stretch_place [] r = omega arith
stretch_place (c ∷ cs) r = ap (λ r. r.place) (stretch_form c cs r)

pub stretch_read : (q new : PageReader) (text front rest : List ℕ) → TakesCommon q →
    CutsAll is_common text front rest → new ≡ in_data (behind_stretch front q.reading) →
    ReadsFront q new text rest
stretch_read q new text front rest takes cut made =
    let r = q.reading in
    front_read q new text front rest cut.begins
    (ap (λ p. run p (front ++ chars rest)) takes.state
    ∙ (front_run front (chars rest) r cut.are takes.fresh takes.taken
    ∙ ap (λ p. run p (chars rest)) (sym made)))
    (ap (λ p. p.reading.place) made ∙ stretch_place front r)

pub value_read : (q new : PageReader) (tag : TagDraft) (attr value : List ℕ) (r : Reading)
    (text front rest : List ℕ) → q ≡ in_quotes tag attr value r →
    CutsAll is_common text front rest →
    new ≡ in_quotes tag attr (value ++ front) (behind_chars front r) → ReadsFront q new text rest
value_read q new tag attr value r text front rest before cut made =
    front_read q new text front rest cut.begins
    (ap (λ p. run p (front ++ chars rest)) before
    ∙ (quoted_run front (chars rest) tag attr value r cut.are
    ∙ ap (λ p. run p (chars rest)) (sym made)))
    (ap (λ p. p.reading.place) made
    ∙ (chars_place front r ∙ ap (λ p. p.reading.place + length front) (sym before)))
