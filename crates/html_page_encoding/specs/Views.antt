-- The program's values as values of the definitions.
use Rattle.std.specs.{Borrow.{Bor}, Prelude.{ℕ, List, option_map, Option}}
use Rattle.html_page_encoding.specs.Attributes as attributes
use Rattle.html_page_encoding.specs.Prescan as prescan
use Rattle.html_page_encoding.specs.declared.attribute.Attribute.{Attribute}
use Rattle.html_page_encoding.specs.declared.attribute.TagFront.{TagFront}
use Rattle.html_page_encoding.specs.declared.attribute.TagFront.TheVariants as front
use Rattle.html_page_encoding.specs.declared.markup.Piece.{Piece}
use Rattle.html_page_encoding.specs.declared.markup.Piece.TheVariants as piece
use Rattle.html_page_encoding.specs.declared.meta.Meta.{Meta}
use Rattle.html_page_encoding.specs.declared.part.Part.{Part}

abbrev pub part_view : Part → attributes.Part
part_view p = record { text = p.text.now; left = p.left }

abbrev pub parts_view : Option Part → Option attributes.Part
parts_view p = option_map part_view p

abbrev pub attribute_view : Attribute → attributes.Attribute
attribute_view a = record { name = a.name.now; value = part_view a.value; rest = a.rest.now }

abbrev pub front_view : TagFront → attributes.TagFront
front_view front.Cut = attributes.Cut
front_view (front.Close rest) = attributes.Close rest.now
front_view (front.Next a) = attributes.Next (attribute_view a)

abbrev pub meta_view : Meta → attributes.Meta
meta_view m = record {
  pragma = parts_view m.pragma;
  content = parts_view m.content;
  charset = parts_view m.charset;
}

abbrev pub read_view : Meta × Bor (List ℕ) → attributes.Meta × List ℕ
read_view r = (meta_view r.0, r.1.now)

abbrev pub piece_view : Piece → prescan.Piece
piece_view piece.Cut = prescan.Cut
piece_view (piece.Passed rest) = prescan.Passed rest.now
piece_view (piece.Declared p) = prescan.Declared (part_view p)
