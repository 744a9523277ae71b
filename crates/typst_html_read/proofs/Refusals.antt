-- From a character on that is refused, nothing is read, whatever follows.
use Rattle.std.proofs.Common.{◌≡◌, ℕ, Bool, true, false, not, ◌&&◌, ◌∷◌, ◌++◌, List, [], None, eqb, bytes_eq, get_or, length, refl, sym, ap, ◌∙◌, subst, arith, append-nil, append_assoc, eq-eqb}
use Rattle.std.proofs.lemmas.{Bool.{false≢true, false_from_ne_true, not-true, or_parts}, Str.{encodes-IsAscii}, Bool.Decides.{nat_tests}}
use Rattle.std.specs.{Prelude.{if◌then◌else◌, is_none}, Str.{IsAscii}}
use lib.Utf8.{encodes}
use Rattle.html_names_core.proofs.{Basics.{bytes_eq-same, is_ascii_is, none_from_is_none}, Faults.{tag_ascii, valid_tag}}
use Rattle.html_names_core.specs.{Characters.{is_tag_char}, Names.{tag_fault}}
use Rattle.typst_html_encode.specs.Reader.{Open, ReaderState, Content, Reference, Less, StartName, AttrName, Value, ValueReference, EndName, or_stop, step, final_root}
use Rattle.typst_html_encode.specs.References.{reference}
use Rattle.typst_html_read.proofs.BegunReferences.{reference_never}
use Rattle.typst_html_read.proofs.Names.{stack_taken, taken, ends_refused, Holds, step_holds, outcome, stopped, none_after}
use Rattle.typst_html_read.specs.{BegunReferences.{begins_reference, continues_reference}, LimitedReading.{ends_at, refuses, next_state}}
use Rattle.typst_html_read.specs.PlainElements.{accepted}
use Rattle.html_text.proofs.Words.{front_ascii}

if_none : (b : Bool) (s t : ReaderState) (cs : List ℕ) → outcome s cs ≡ None →
    outcome t cs ≡ None → outcome (if b then s else t) cs ≡ None
if_none b s t cs h k = grind arith

-- what stands since `&` begins no reference; `f` are the states that hold it
module _ (f : List ℕ → ReaderState) (done : ℕ → ReaderState)
    (next : (w : List ℕ) (c : ℕ) →
    step (f w) c ≡ (if eqb c 59 then or_stop (reference w) done else f (w ++ c ∷ [])))
    (open_still : (w : List ℕ) → final_root (f w) ≡ None) where
  since_never : (cs w : List ℕ) → ((more : List ℕ) → reference (w ++ more) ≡ None) →
      outcome (f w) cs ≡ None
  since_never [] w h = ap accepted (open_still w)
  since_never (c ∷ cs) w h =
      let none : reference w ≡ None = ap reference (sym (append-nil w)) ∙ h [] in
      ap (λ s. outcome s cs) (next w c)
      ∙ if_none (eqb c 59) (or_stop (reference w) done) (f (w ++ c ∷ [])) cs
      (ap (λ o. outcome (or_stop o done) cs) none ∙ stopped cs)
      (since_never cs (w ++ c ∷ [])
      (λ more. ap reference (append_assoc w (c ∷ []) more) ∙ h (c ∷ more)))

  since_refused : (w : List ℕ) (c : ℕ) (cs : List ℕ) → continues_reference w c ≡ false →
      outcome (step (f w) c) cs ≡ None
  since_refused w c cs h =
      let no = or_parts (eqb c 59) (begins_reference (w ++ c ∷ [])) h in
      ap (λ s. outcome s cs) (next w c
      ∙ ap (λ b. if b then or_stop (reference w) done else f (w ++ c ∷ [])) no.0)
      ∙ since_never cs (w ++ c ∷ []) (reference_never (w ++ c ∷ []) no.1)

-- an end tag where no element is open

end_alone : (cs name : List ℕ) → outcome (EndName name []) cs ≡ None
end_alone [] name = refl
end_alone (c ∷ cs) name = grind (arith, end_alone cs (name ++ c ∷ []), stopped cs)

less_refused : (stack : List Open) (c : ℕ) (cs : List ℕ) →
    (eqb c 47 && eqb (length stack) 0) ≡ true → outcome (step (Less stack) c) cs ≡ None
less_refused [] c cs h = grind (arith, end_alone cs [])
less_refused (o ∷ os) c cs h = grind (arith, nat_tests)

-- behind what was read of a name, the rest stands at that place
pub next_is : (name read rest : List ℕ) → IsAscii read → name ≡ read ++ rest →
    get_or name (length (encodes read)) 62 ≡ get_or rest 0 62
next_is name read rest a e = ap (λ l. get_or name (length l) 62) (encodes-IsAscii read a)
    ∙ (ap (λ l. get_or l (length read) 62) e ∙ at_rest read)
  where
    at_rest : (read : List ℕ) → get_or (read ++ rest) (length read) 62 ≡ get_or rest 0 62
    at_rest [] = refl
    at_rest (c ∷ cs) = at_rest cs

-- an end tag of another name than that of the innermost element

other_name : (name read rest : List ℕ) (c : ℕ) → IsAscii name → c ≡ get_or rest 0 62 →
    eqb c (get_or name (length (encodes read)) 62) ≡ false → bytes_eq (read ++ rest) name ≡ false
other_name name read rest c a is h = false_from_ne_true (bytes_eq (read ++ rest) name) (λ e.
    let whole : name ≡ read ++ rest = sym (bytes_eq-same (read ++ rest) name e) in
    let ascii : IsAscii read = front_ascii read rest (subst IsAscii whole a) in
    false≢true (sym h ∙ eq-eqb c _ (is ∙ sym (next_is name read rest ascii whole))))

module _ (o : Open) (os : List Open) where
  end_never : (cs read : List ℕ) → ((more : List ℕ) → bytes_eq (read ++ more) o.name ≡ false) →
      outcome (EndName read (o ∷ os)) cs ≡ None
  end_never [] read h = refl
  end_never (c ∷ cs) read h =
      let more = end_never cs (read ++ c ∷ [])
      (λ more. ap (λ l. bytes_eq l o.name) (append_assoc read (c ∷ []) more) ∙ h (c ∷ more)) in
      if_none (is_tag_char c) _ _ cs more (grind (arith, append-nil read, h [], stopped cs))

  end_refused : (read : List ℕ) (c : ℕ) (cs : List ℕ) → IsAscii o.name →
      eqb c (get_or o.name (length (encodes read)) 62) ≡ false →
      outcome (step (EndName read (o ∷ os)) c) cs ≡ None
  end_refused read c cs a h =
      if_none (is_tag_char c) _ _ cs
      (end_never cs (read ++ c ∷ []) (λ more.
      ap (λ l. bytes_eq l o.name) (append_assoc read (c ∷ []) more)
      ∙ other_name o.name read (c ∷ more) c a refl h))
      (grind (arith, nat_tests, append-nil read, stopped cs, other_name o.name read [] c a))

own_ascii : (o : Open) (os : List Open) → stack_taken (o ∷ os) ≡ true → IsAscii o.name
own_ascii o os h =
    let named : is_none (tag_fault o.name) ≡ true = grind arith in
    is_ascii_is o.name
    (tag_ascii o.name (valid_tag o.name (none_from_is_none (tag_fault o.name) named)))

name_refused : (s : ReaderState) (c : ℕ) (cs : List ℕ) → ends_refused s c ≡ true →
    outcome (step s c) cs ≡ None
name_refused s c cs h = none_after cs (step s c)
    (subst (λ b. Holds (step s c) (not b && taken s)) h (step_holds s c))

refused_none : (s : ReaderState) (c : ℕ) (cs : List ℕ) → taken s ≡ true → refuses s c ≡ true →
    outcome (step s c) cs ≡ None
refused_none (Reference text since stack) c cs t h =
    since_refused (λ w. Reference text w stack) (λ d. Content (text ++ d ∷ []) stack)
    (λ w d. refl) (λ w. refl) since c cs (not-true (continues_reference since c) h)
refused_none (Less stack) c cs t h = less_refused stack c cs h
refused_none (StartName name stack) c cs t h = name_refused (StartName name stack) c cs h
refused_none (AttrName name attrs attr stack) c cs t h =
    name_refused (AttrName name attrs attr stack) c cs h
refused_none (ValueReference name attrs attr value since stack) c cs t h =
    since_refused (λ w. ValueReference name attrs attr value w stack)
    (λ d. Value name attrs attr (value ++ d ∷ []) stack)
    (λ w d. refl) (λ w. refl) since c cs (not-true (continues_reference since c) h)
refused_none (EndName name []) c cs t h = end_alone (c ∷ cs) name
refused_none (EndName name (o ∷ os)) c cs t h = end_refused o os name c cs (own_ascii o os t)
    (not-true (ends_at (o ∷ os) (length (encodes name)) c) h)
refused_none s c cs t h = absurd (false≢true h)

-- what is read is the same where reading stops there
pub next_outcome : (s : ReaderState) (c : ℕ) (cs : List ℕ) → taken s ≡ true →
    outcome (next_state s c) cs ≡ outcome s (c ∷ cs)
next_outcome s c cs t = grind (arith, refused_none s c cs t, stopped cs)

names_pass : (s : ReaderState) (c : ℕ) → refuses s c ≡ false → ends_refused s c ≡ false
names_pass (StartName name stack) c h = h
names_pass (AttrName name attrs attr stack) c h = h
names_pass s c h = refl

-- and the names stay taken
pub next_taken : (s : ReaderState) (c : ℕ) → taken s ≡ true → Holds (next_state s c) true
next_taken s c t = grind (arith, step_holds s c, names_pass s c)
