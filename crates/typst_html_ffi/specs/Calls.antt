-- What each call for C gives: its reply, and the caller's buffer after it, for the buffer before it.
use Rattle.std.specs.Prelude.{◌≡◌, ℕ, List}
use Rattle.typst_html_run.specs.Answers.{Answer}
use Rattle.typst_html_ffi.specs.CallReplies.{Replies, RepliesWith, call_dead_links, document_call_answer, write_answer}
use Rattle.typst_html_ffi.specs.{DeadLinks.{dead_links_answer}, Fragments.{fragment_call_answer}, PageFindings.{check_report}}
use Rattle.typst_html_ffi.specs.{PageLinks.{links_report}, PageReports.{Report, Reports}, Unused.{unused_call_answer}}
use Rattle.typst_html_ffi.specs.declared.reply.Reply.{Reply}

-- the buffer changes with status 0 alone
abbrev pub Keeps : (old : List ℕ) (reply : Reply) (new : List ℕ) → Type 0
Keeps old reply new = ¬ (reply.status ≡ 0) → new ≡ old

abbrev pub Answers : Answer → (old : List ℕ) (reply : Reply) (new : List ℕ) → Type 0
Answers answer old reply new = Replies answer old reply new × Keeps old reply new

abbrev pub ReportsPage : Report → (old : List ℕ) (reply : Reply) (new : List ℕ) → Type 0
ReportsPage report old reply new = Reports report old reply new × Keeps old reply new

-- typst_html_write
abbrev pub Writes : (kind layout : ℕ) (input old : List ℕ) (reply : Reply) (new : List ℕ) → Type 0
Writes kind layout input = Answers (write_answer kind layout input)

-- typst_html_document: the buffer changes with status 0 or 5 alone
abbrev pub WritesDocument : (layout links limit : ℕ) (input old : List ℕ) (reply : Reply)
    (new : List ℕ) → Type 0
WritesDocument layout links limit input old reply new =
    RepliesWith (call_dead_links layout links limit input)
    (document_call_answer layout links limit input) old reply new
    × (¬ (reply.status ≡ 0) → ¬ (reply.status ≡ 5) → new ≡ old)

-- typst_html_fragment
abbrev pub WritesFragment : (level limit : ℕ) (input old : List ℕ) (reply : Reply) (new : List ℕ)
    → Type 0
WritesFragment level limit input = Answers (fragment_call_answer level limit input)

-- typst_html_dead_links
abbrev pub ListsDeadLinks : (limit : ℕ) (input old : List ℕ) (reply : Reply) (new : List ℕ) → Type 0
ListsDeadLinks limit input = Answers (dead_links_answer limit input)

-- typst_html_unused
abbrev pub ListsUnused : (limit : ℕ) (input old : List ℕ) (reply : Reply) (new : List ℕ) → Type 0
ListsUnused limit input = Answers (unused_call_answer limit input)

-- typst_html_check
abbrev pub ChecksPage : (limit : ℕ) (page old : List ℕ) (reply : Reply) (new : List ℕ) → Type 0
ChecksPage limit page = ReportsPage (check_report limit page)

-- typst_html_links
abbrev pub ListsLinks : (limit : ℕ) (page old : List ℕ) (reply : Reply) (new : List ℕ) → Type 0
ListsLinks limit page = ReportsPage (links_report limit page)
