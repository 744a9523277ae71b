-- Laws of values.
use Rattle.std.specs.{Char.{is_ascii_whitespace}, Prelude.{◌≡◌, ℕ, Bool, true, false, not, List, codes}}
use Rattle.html_names_core.specs.{Characters.{all}, Names.{stands_in}}
use Rattle.html_links.specs.Scripts.{href_is_script}
use Rattle.html_clean_values.specs.Prefixes.{prefixed, prefixed_href, prefixed_name, prefixed_words}
use Rattle.html_clean_values.specs.{Replaced.{is_plain_char, replaced}, Urls.{url_is_allowed}}

-- a replaced text has text characters alone, and no carriage return
abbrev pub ReplacedIsPlain : Type 0
ReplacedIsPlain = (text : List ℕ) → all is_plain_char (replaced text) ≡ true

-- nothing is replaced in such a text
abbrev pub PlainStays : Type 0
PlainStays = (text : List ℕ) → all is_plain_char text ≡ true → replaced text ≡ text

abbrev pub ReplacedOnce : Type 0
ReplacedOnce = (text : List ℕ) → replaced (replaced text) ≡ replaced text

abbrev pub PrefixedOnce : Type 0
PrefixedOnce = (prefix text : List ℕ) →
    prefixed prefix (prefixed prefix text) ≡ prefixed prefix text

abbrev pub PrefixedNameOnce : Type 0
PrefixedNameOnce = (prefix name : List ℕ) →
    prefixed_name prefix (prefixed_name prefix name) ≡ prefixed_name prefix name

-- where the prefix has no white space
abbrev pub PrefixedWordsOnce : Type 0
PrefixedWordsOnce = (prefix text : List ℕ) → all (λ c. not (is_ascii_whitespace c)) prefix ≡ true →
    prefixed_words prefix (prefixed_words prefix text) ≡ prefixed_words prefix text

abbrev pub PrefixedHrefOnce : Type 0
PrefixedHrefOnce = (prefix href : List ℕ) →
    prefixed_href prefix (prefixed_href prefix href) ≡ prefixed_href prefix href

-- if all characters of the prefix and of the text pass a test, all of the result pass it
abbrev pub PrefixedPasses : Type 0
PrefixedPasses = (is : ℕ → Bool) (prefix text : List ℕ) → all is prefix ≡ true →
    all is text ≡ true → all is (prefixed prefix text) ≡ true

abbrev pub PrefixedNamePasses : Type 0
PrefixedNamePasses = (is : ℕ → Bool) (prefix name : List ℕ) → all is prefix ≡ true →
    all is name ≡ true → all is (prefixed_name prefix name) ≡ true

-- where a space passes it too
abbrev pub PrefixedWordsPasses : Type 0
PrefixedWordsPasses = (is : ℕ → Bool) (prefix text : List ℕ) → is 32 ≡ true →
    all is prefix ≡ true → all is text ≡ true → all is (prefixed_words prefix text) ≡ true

abbrev pub PrefixedHrefPasses : Type 0
PrefixedHrefPasses = (is : ℕ → Bool) (prefix href : List ℕ) → all is prefix ≡ true →
    all is href ≡ true → all is (prefixed_href prefix href) ≡ true

-- a prefix changes nothing of whether an `href` is allowed
abbrev pub PrefixedHrefIsAllowed : Type 0
PrefixedHrefIsAllowed =
    (schemes : List (List ℕ)) (relative : Bool) (prefix href : List ℕ) →
    url_is_allowed schemes relative (prefixed_href prefix href)
    ≡ url_is_allowed schemes relative href

-- where no scheme of scripts is allowed, no URL that is allowed is a script
abbrev pub ScriptsAreRefused : Type 0
ScriptsAreRefused = (schemes : List (List ℕ)) (relative : Bool) (url : List ℕ) →
    stands_in schemes (codes "javascript") ≡ false → stands_in schemes (codes "data") ≡ false →
    stands_in schemes (codes "vbscript") ≡ false → url_is_allowed schemes relative url ≡ true →
    href_is_script url ≡ false
