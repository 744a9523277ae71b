-- Values in a row, each of which spells one thing.
use Rattle.std.proofs.Common.{◌≡◌, ℕ, List, [], ◌∷◌, ◌++◌, map, Ok, Err, refl, ap, ◌∙◌}
use Rattle.serde_json.specs.{Data.{Data, Items, no_items, item}, View.{view, items_view}, declared.value.Value.{Value}}
use Rattle.typst_html_json.proofs.Readings.{wrong_by, read_clean, then_read}
use Rattle.typst_html_json.specs.{Fields.{row_from}, LeftForms.{Left}, Marks.{Mark}, NameRefusals.{Refusal}}
use Rattle.typst_html_json.specs.{Reading.{mark, IsWrong, IsRead}, declared.fault.Fault.{Fault}, declared.reader.Reader.{Reader}}

-- how a row is spelled, `add` putting one before the others, and what is refused in it
pub record Row (A B : Type 0) : Type 0 where
  pub add : A → B → B
  pub nothing : B
  pub one : Data → Mark → Left (A × Mark)
  pub all : Items → Mark → Left (B × Mark)
  pub ones : A → List Refusal
  pub alls : B → List Refusal
  pub ends : (m : Mark) → all no_items m ≡ Ok (nothing, m)
  pub steps : (d : Data) (ds : Items) (m : Mark)
      → all (item d ds) m ≡ row_from add (one d m) (all ds)
  pub clean : alls nothing ≡ []
  pub adds : (a : A) (b : B) → alls (add a b) ≡ ones a ++ alls b

-- those in a row, and then the others
abbrev pub joined : {A B : Type 0} → (add : A → B → B) → List A → B → B
joined add [] others = others
joined add (x ∷ xs) others = add x (joined add xs others)

pub joined-more : {X A B : Type 0} (add : A → B → B) (see : X → A) (xs : List X) (x : X) (others : B)
    → joined add (map see xs) (add (see x) others) ≡ joined add (map see (xs ++ x ∷ [])) others
joined-more add see [] x others = refl
joined-more add see (y ∷ xs) x others = ap (add (see y)) (joined-more add see xs x others)

-- those before `left` were read: with the others all are
pub record IsPartRead {X A B : Type 0} (row : Row A B) (see : X → A) (wanted : Left (B × Mark))
    (left : List Value) (made : List X) (before now : Reader) : Type 0 where
  pub read : (others : B) (after : Reader)
      → IsRead row.alls others (row.all (items_view left) (mark now)) now after
      → IsRead row.alls (joined row.add (map see made) others) wanted before after
  pub wrong : (n : ℕ) → row.all (items_view left) (mark now) ≡ Err n → wanted ≡ Err n

pub none_read : {X A B : Type 0} (row : Row A B) (see : X → A) (wanted : Left (B × Mark))
    (vs : List Value) (made : List X) (before : Reader)
    → wanted ≡ row.all (items_view vs) (mark before) → made ≡ []
    → IsPartRead row see wanted vs made before before
none_read row see wanted vs made before is nothing = record {
  read = λ others after r. rw (is, nothing) r;
  wrong = λ n h. is ∙ h;
}

pub one_read : {X A B : Type 0} (row : Row A B) (see : X → A) (wanted : Left (B × Mark))
    (left rest : List Value) (v : Value) (made : List X) (x : X) (s t u : Reader)
    → IsPartRead row see wanted left made s t → left ≡ v ∷ rest
    → IsRead row.ones (see x) (row.one (view v) (mark t)) t u
    → IsPartRead row see wanted rest (made ++ x ∷ []) s u
one_read row see wanted left rest v made x s t u p is r =
    let step = row.steps (view v) (items_view rest) (mark t) in
    record {
      read = λ others after q.
          rw (← joined-more row.add see made x others)
          (p.read (row.add (see x) others) after
          (rw (is, step)
          (then_read row.add row.ones row.alls row.alls row.adds _ (row.all (items_view rest))
          (see x) others t u after r q)));
      wrong = λ n h. p.wrong n (rw (is, step, r.spelled, h) refl);
    }

pub all_read : {X A B : Type 0} (row : Row A B) (see : X → A) (wanted : Left (B × Mark))
    (left : List Value) (made : List X) (s t : Reader) → IsPartRead row see wanted left made s t
    → left ≡ [] → IsRead row.alls (joined row.add (map see made) row.nothing) wanted s t
all_read row see wanted left made s t p is =
    p.read row.nothing t
    (read_clean row.alls row.nothing _ t t (rw (is, row.ends (mark t)) refl) row.clean refl)

-- the form is left in one
pub wrong_one : {X A B : Type 0} (row : Row A B) (see : X → A) (wanted : Left (B × Mark))
    (left rest : List Value) (v : Value) (made : List X) (s t : Reader) (e : Fault)
    → IsPartRead row see wanted left made s t → left ≡ v ∷ rest
    → IsWrong (row.one (view v) (mark t)) e → IsWrong wanted e
wrong_one row see wanted left rest v made s t e p is =
    wrong_by (row.one (view v) (mark t)) wanted e
    (λ n h. p.wrong n (rw (is, row.steps (view v) (items_view rest) (mark t), h) refl))
