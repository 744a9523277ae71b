-- Names and end tags that are read at once are read as their characters one by one.
use Rattle.std.proofs.Common.{◌≡◌, ℕ, ◌+◌, ◌-◌, Bool, true, false, List, [], ◌∷◌, ◌++◌, chars, length, eqb, refl, sym, ap, ◌∙◌, arith, append_assoc, length-append, Some}
use Rattle.std.proofs.lemmas.{Bool.{and_parts, false≢true}, Str.{chars-IsAscii}, Bool.Decides.{nat_tests}}
use Rattle.std.specs.{Char.{to_ascii_lowercase}, List.{list_all}}
use Rattle.html_names_core.specs.Characters.{all, is_lower, is_tag_char}
use Rattle.html_text.{proofs.Fronts.{name_ascii, name_small}, specs.Fronts.{BeginsWith, CutsAll, is_name_char}}
use Rattle.html_page_read.proofs.{Fronts.{begins_on, front_read}, PageStretches.{chars_form, chars_place, grow_run, other, plain_step}}
use Rattle.html_page_read.proofs.TagNames.{name_from}
use Rattle.html_page_read.specs.{Fronts.{begins_small}, PageReading.{run}, PageReferences.{is_letter}}
use Rattle.html_page_read.specs.PageStretches.{behind_chars, in_data, in_quotes, ReadsFront}
use Rattle.html_page_read.specs.PageTokens.{TagDraft, TokenState, PageReader, Reading, TagName, BeforeAttr, AttrName, goes, is_name, moved, step}
use Rattle.html_page_read.specs.TagFronts.{EndsOwn, behind_own_end, in_name, tag_open}
use Rattle.html_page_stack.specs.{OpenElements.{current_name}, Pages.{End, closed}}
use Rattle.html_page_tree.proofs.OwnEnds.{own_end_taken}
use Rattle.html_page_tree.specs.{OwnEnds.{takes_own_end}, PageBodies.{is_space}, PageTrees.{token_read}}

lowered : (c : ℕ) → is_name_char c ≡ true → to_ascii_lowercase c ≡ c
lowered c h = grind (arith, nat_tests)

spaceless : (c : ℕ) → is_name_char c ≡ true → is_space c ≡ false
spaceless c h = grind (arith, nat_tests)

none : (c d : ℕ) → is_name_char c ≡ true → is_name_char d ≡ false → eqb c d ≡ false
none c d h k = other is_name_char c d h k

names : (cs : List ℕ) → all is_name_char cs ≡ true → list_all is_tag_char cs ≡ true
names [] h = refl
names (c ∷ cs) h = grind (arith, nat_tests, names cs)

-- such a character, by which a state is left for another
name_char_step : (s t : TokenState) (c : ℕ) (r : Reading) → is_name_char c ≡ true →
    moved s c r ≡ goes t r → step (record { state = s; reading = r }) c
    ≡ record { state = t; reading = behind_chars (c ∷ []) r }
name_char_step s t c r h moves = plain_step s t c r (none c 0 h refl) (none c 10 h refl)
    (none c 13 h refl) (name_small c h) moves

name_step : (tag : TagDraft) (name : List ℕ) (c : ℕ) (r : Reading) → is_name_char c ≡ true →
    step (record { state = TagName (record tag { name = name }); reading = r }) c
    ≡ record {
      state = TagName (record tag { name = name ++ c ∷ [] });
      reading = behind_chars (c ∷ []) r;
    }
name_step tag name c r h = name_char_step (TagName (record tag { name = name }))
    (TagName (record tag { name = name ++ c ∷ [] })) c r h
    (rw (spaceless c h, none c 47 h refl, none c 62 h refl, lowered c h) refl)

name_run : (cs ds : List ℕ) (tag : TagDraft) (r : Reading) → all is_name_char cs ≡ true →
    run (record { state = TagName tag; reading = r }) (cs ++ ds)
    ≡ run (record {
      state = TagName (record tag { name = tag.name ++ cs });
      reading = behind_chars cs r;
    }) ds
name_run cs ds tag r h = grow_run (λ n. TagName (record tag { name = n })) is_name_char
    (name_step tag) tag.name cs ds r h

small_name : (c : ℕ) → is_lower c ≡ true → is_name_char c ≡ true
small_name c h = grind arith

letter : (c : ℕ) → is_lower c ≡ true → is_letter c ≡ true
letter c h = grind arith

open_step : (is_end : Bool) (c : ℕ) (r : Reading) → is_lower c ≡ true →
    step (record { state = tag_open is_end; reading = r }) c ≡ in_name is_end (c ∷ []) r
open_step true c r h = let k = small_name c h in
    name_char_step (tag_open true) _ c r k (rw (letter c h, lowered c k) refl)
open_step false c r h = let k = small_name c h in
    name_char_step (tag_open false) _ c r k (rw (letter c h, lowered c k) refl)

pub tag_run : (is_end : Bool) (name cs : List ℕ) (r : Reading) → begins_small name ≡ true →
    all is_name_char name ≡ true →
    run (record { state = tag_open is_end; reading = r }) (name ++ cs)
    ≡ run (in_name is_end name r) cs
tag_run is_end [] cs r h k = absurd (false≢true h)
tag_run is_end (c ∷ name) cs r h k =
    ap (λ q. run q (name ++ cs)) (open_step is_end c r h)
    ∙ name_run name cs (record { is_end = is_end; name = c ∷ []; attrs = [] })
    (behind_chars (c ∷ []) r) (and_parts (is_name_char c) (all is_name_char name) k).1

-- an end tag of the current node
page_kept : (cs : List ℕ) (r : Reading) → (behind_chars cs r).page ≡ r.page
page_kept [] r = refl
page_kept (c ∷ cs) r = page_kept cs (record r { place = r.place + 1; after_return = false })

named : (name : List ℕ) → begins_small name ≡ true → all is_name_char name ≡ true →
    is_name name ≡ true
named [] h k = absurd (false≢true h)
named (c ∷ cs) h k = name_from c cs (names (c ∷ cs) k)

-- behind `>`
ended : (name : List ℕ) (r : Reading) → token_read (End name) r.page ≡ closed true r.page →
    is_name name ≡ true →
    step (record {
      state = TagName (record { is_end = true; name = name; attrs = [] });
      reading = r;
    }) 62
    ≡ behind_own_end 1 r
ended name r h k = rw (k, h) refl

pub own_end_run : (name cs : List ℕ) (r : Reading) → current_name r.page.stack ≡ Some name →
    takes_own_end r.page ≡ true → begins_small name ≡ true → all is_name_char name ≡ true →
    run (record { state = tag_open true; reading = r }) ((name ++ 62 ∷ []) ++ cs)
    ≡ run (behind_own_end (length (name ++ 62 ∷ [])) r) cs
own_end_run name cs r current taken small are =
    let q = behind_chars name r in
    let same = page_kept name r in
    let token : token_read (End name) q.page ≡ closed true q.page =
    ap (token_read (End name)) same
    ∙ (own_end_taken name r.page current taken ∙ ap (closed true) (sym same)) in
    let length : q.place + 1 ≡ r.place + length (name ++ 62 ∷ []) =
    omega (arith, chars_place name r, length-append name (62 ∷ [])) in
    ap (run (record { state = tag_open true; reading = r })) (append_assoc name (62 ∷ []) cs)
    ∙ (tag_run true name (62 ∷ cs) r small are
    ∙ (ap (λ q. run q cs) (ended name q token (named name small are))
    ∙ (λ i. run (in_data (record {
      page = closed true (same i);
      place = length i;
      fresh = false;
      after_return = false;
    })) cs)))

-- the name of an attribute, with `="` behind it
attr_step : (tag : TagDraft) (attr : List ℕ) (c : ℕ) (r : Reading) → is_name_char c ≡ true →
    step (record { state = AttrName tag attr; reading = r }) c
    ≡ record { state = AttrName tag (attr ++ c ∷ []); reading = behind_chars (c ∷ []) r }
attr_step tag attr c r h =
    name_char_step (AttrName tag attr) (AttrName tag (attr ++ c ∷ [])) c r h (rw (
      spaceless c h,
      none c 61 h refl,
      none c 47 h refl,
      none c 62 h refl,
      lowered c h,
    ) refl)

before_step : (tag : TagDraft) (c : ℕ) (r : Reading) → is_name_char c ≡ true →
    step (record { state = BeforeAttr tag; reading = r }) c
    ≡ record { state = AttrName tag (c ∷ []); reading = behind_chars (c ∷ []) r }
before_step tag c r h = name_char_step (BeforeAttr tag) (AttrName tag (c ∷ [])) c r h
    (rw (spaceless c h, none c 47 h refl, none c 62 h refl, lowered c h) refl)

attr_name_run : (cs ds : List ℕ) (tag : TagDraft) (attr : List ℕ) (r : Reading) →
    all is_name_char cs ≡ true → run (record { state = AttrName tag attr; reading = r }) (cs ++ ds)
    ≡ run (record { state = AttrName tag (attr ++ cs); reading = behind_chars cs r }) ds
attr_name_run cs ds tag attr r h =
    grow_run (AttrName tag) is_name_char (attr_step tag) attr cs ds r h

chars_on : (cs ds : List ℕ) (r : Reading) →
    behind_chars ds (behind_chars cs r) ≡ behind_chars (cs ++ ds) r
chars_on [] ds r = refl
chars_on (c ∷ cs) ds r = chars_on cs ds (record r { place = r.place + 1; after_return = false })

pub attr_run : (c : ℕ) (attr cs : List ℕ) (tag : TagDraft) (r : Reading) →
    all is_name_char (c ∷ attr) ≡ true →
    run (record { state = BeforeAttr tag; reading = r }) (((c ∷ attr) ++ 61 ∷ 34 ∷ []) ++ cs)
    ≡ run (in_quotes tag (c ∷ attr) [] (behind_chars ((c ∷ attr) ++ 61 ∷ 34 ∷ []) r)) cs
attr_run c attr cs tag r h =
    let both = and_parts (is_name_char c) (all is_name_char attr) h in
    ap (run (record { state = BeforeAttr tag; reading = r }))
    (append_assoc (c ∷ attr) (61 ∷ 34 ∷ []) cs)
    ∙ (ap (λ q. run q (attr ++ 61 ∷ 34 ∷ cs)) (before_step tag c r both.0)
    ∙ (attr_name_run attr (61 ∷ 34 ∷ cs) tag (c ∷ []) (behind_chars (c ∷ []) r) both.1
    ∙ ap (λ r. run (in_quotes tag (c ∷ attr) [] r) cs) (chars_on (c ∷ attr) (61 ∷ 34 ∷ []) r)))

pub name_read : (is_end : Bool) (q new : PageReader) (text front rest : List ℕ) →
    q.state ≡ tag_open is_end → CutsAll is_name_char text front rest → begins_small front ≡ true →
    new ≡ in_name is_end front q.reading → ReadsFront q new text rest
name_read is_end q new text front rest opened cut small made =
    front_read q new text front rest cut.begins
    (ap (λ s. run (record { state = s; reading = q.reading }) (front ++ chars rest)) opened
    ∙ (tag_run is_end front (chars rest) q.reading small cut.are
    ∙ ap (λ p. run p (chars rest)) (sym made)))
    (ap (λ p. p.reading.place) made ∙ chars_place front q.reading)

pub own_end_read : (q new : PageReader) (text rest : List ℕ) → q.state ≡ tag_open true →
    EndsOwn q.reading text rest →
    new ≡ behind_own_end (length text - length rest) q.reading → ReadsFront q new text rest
own_end_read q new text rest opened ends made =
    let front = ends.name ++ 62 ∷ [] in
    let r = q.reading in
    let long : length text - length rest ≡ length front = omega (arith, ends.begins.long) in
    let made : new ≡ behind_own_end (length front) r = made ∙ ap (λ k. behind_own_end k r) long in
    front_read q new text front rest ends.begins
    (ap (λ s. run (record { state = s; reading = r }) (front ++ chars rest)) opened
    ∙ (own_end_run ends.name (chars rest) r ends.current ends.taken ends.small ends.are
    ∙ ap (λ q. run q (chars rest)) (sym made)))
    (ap (λ q. q.reading.place) made)

pub attr_read : (q new : PageReader) (tag : TagDraft) (text attr behind rest : List ℕ) →
    q.state ≡ BeforeAttr tag → CutsAll is_name_char text attr behind →
    eqb (length attr) 0 ≡ false → BeginsWith (61 ∷ 34 ∷ []) behind rest →
    new ≡ in_quotes tag (chars attr) [] (record (q.reading) {
      place = q.reading.place + (length attr + 2);
      after_return = false;
    }) → ReadsFront q new text rest
attr_read q new tag text [] behind rest opened cut some equals made = absurd (false≢true (sym some))
attr_read q new tag text (c ∷ cs) behind rest opened cut some equals made =
    let attr = c ∷ cs in
    let r = q.reading in
    let front = attr ++ 61 ∷ 34 ∷ [] in
    let long : length front ≡ length attr + 2 = length-append attr (61 ∷ 34 ∷ []) in
    let same : chars attr ≡ attr = chars-IsAscii attr (name_ascii attr cut.are) in
    let passed : new ≡ in_quotes tag attr [] (behind_chars front r) =
    made
    ∙ ((λ i. in_quotes tag (same i) [] (record r {
      place = r.place + sym long i;
      after_return = false;
    })) ∙ ap (in_quotes tag attr []) (sym (chars_form c (cs ++ 61 ∷ 34 ∷ []) r))) in
    front_read q new text front rest
    (begins_on text attr behind (61 ∷ 34 ∷ []) rest cut.begins equals)
    (ap (λ s. run (record { state = s; reading = r }) (front ++ chars rest)) opened
    ∙ (attr_run c cs (chars rest) tag r cut.are ∙ ap (λ p. run p (chars rest)) (sym passed)))
    (ap (λ p. p.reading.place) passed ∙ chars_place front r)
