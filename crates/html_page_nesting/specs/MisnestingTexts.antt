-- The name of a rule, and what becomes of a node that breaks it, in English.
use Rattle.std.specs.Prelude.{ℕ, List, codes}
use Rattle.html_page_nesting.specs.declared.misnesting.Misnesting.{Misnesting}
use Rattle.html_page_nesting.specs.declared.misnesting.Misnesting.TheVariants as why

unfoldable pub rule_texts : Misnesting → List ℕ × List ℕ
rule_texts why.NoPage = (codes "NoPage", codes "is no html with a head and a body alone")
rule_texts why.TooDeep = (codes "TooDeep", codes "stands too deep, and is put beside its parent")
rule_texts why.TagName = (codes "TagName", codes "has a name that is read otherwise")
rule_texts why.AttributeName =
    (codes "AttributeName", codes "has an attribute whose name is read otherwise")
rule_texts why.RepeatedAttribute =
    (codes "RepeatedAttribute", codes "has an attribute twice, and loses one")
rule_texts why.CarriageReturn =
    (codes "CarriageReturn", codes "has a carriage return, which is read as a line feed")
rule_texts why.StaysOpen = (codes "StaysOpen", codes "has no end tag here, and holds what follows")
rule_texts why.UnreadEnd =
    (codes "UnreadEnd", codes "has an end tag that is not read, and loses what it holds")
rule_texts why.RawText =
    (codes "RawText", codes "holds elements or references, which are read as text")
rule_texts why.ForeignText =
    (codes "ForeignText", codes "has a & or < in svg or math, which is no text there")
rule_texts why.FirstLineFeed =
    (codes "FirstLineFeed", codes "begins with a line feed, which is not read as one")
rule_texts why.ScriptComment =
    (codes "ScriptComment", codes "has a <script in a <!--, where its end tag is text")
rule_texts why.NotInHead =
    (codes "NotInHead", codes "closes the head or noscript that it stands in")
rule_texts why.NotInTable =
    (codes "NotInTable", codes "is moved before the table that it stands in")
rule_texts why.NotInColumns = (codes "NotInColumns", codes "closes the colgroup that it stands in")
rule_texts why.OutsideTable =
    (codes "OutsideTable", codes "is dropped outside of its part of a table")
rule_texts why.NeverRead = (codes "NeverRead", codes "is ignored here, or read as another")
rule_texts why.FormInForm = (codes "FormInForm", codes "is ignored in a form")
rule_texts why.ClosesParagraph = (codes "ClosesParagraph", codes "closes the p that it stands in")
rule_texts why.ClosesHeading = (codes "ClosesHeading", codes "closes the heading that it stands in")
rule_texts why.ClosesItem = (codes "ClosesItem", codes "closes the li, dd or dt that it stands in")
rule_texts why.ClosesSame =
    (codes "ClosesSame", codes "closes the one of its name that it stands in")
rule_texts why.ClosesOption =
    (codes "ClosesOption", codes "closes the option or the part of a select that it stands in")
rule_texts why.ClosesSelect = (codes "ClosesSelect", codes "closes the select that it stands in")
rule_texts why.ClosesRubyPart =
    (codes "ClosesRubyPart", codes "closes the part of a ruby that it stands in")
rule_texts why.LeavesForeign =
    (codes "LeavesForeign", codes "closes the svg or math that it stands in")
rule_texts why.Filled = (codes "Filled", codes "is filled with what the chosen option holds")

abbrev pub rule_name : Misnesting → List ℕ
rule_name rule = (rule_texts rule).0

abbrev pub rule_words : Misnesting → List ℕ
rule_words rule = (rule_texts rule).1
