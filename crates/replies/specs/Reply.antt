-- What is printed for each request of a journal. Assumes nothing.
use Rattle.std.specs.Prelude.{ℕ, suc, List, ◌++◌, get_or, Result, Ok, Err}
use Rattle.model.specs.Answers.{Answer, number}
use Rattle.window.specs.declared.Windows.{Windows}
use Rattle.window.specs.Window.{replied}
use Rattle.register.specs.Calls.{call_reply}
use Rattle.planning.specs.declared.State.{State}
use Rattle.planning.specs.Calls.{keep_reply, back_reply}
use Rattle.requests.specs.Watched.{watched_reply}
use Rattle.requests.specs.Requests.{Request, ask, keep, back, watch}
use Rattle.report.specs.Lines.{call_refused, call_kept, call_back, call_windows, window_line}
use Rattle.listing.specs.Listing.{lines_of, call_text}

-- The line of a keeping, and of a return, at place k among the records: `kept` or `back`, or `refused` with the refusal.
abbrev pub kept_text : ℕ → Answer → List ℕ
kept_text k (Ok u) = call_kept k
kept_text k (Err r) = call_refused k (number r)

abbrev pub back_text : ℕ → Answer → List ℕ
back_text k (Ok u) = call_back k
back_text k (Err r) = call_refused k (number r)

-- The line of a moving window: `windows` and how many there are, or `refused` with the refusal.
abbrev pub windows_line : ℕ → Answer → ℕ → List ℕ
windows_line k (Ok u) count = call_windows k count
windows_line k (Err r) count = call_refused k (number r)

-- How many windows a line tells, or the number of the refusal.
abbrev pub count_by : Answer → ℕ → Result ℕ ℕ
count_by (Ok u) count = Ok count
count_by (Err r) count = Err (number r)

-- A window's line: its number, from 1, and its natural runoff.
abbrev pub window_text : ℕ → ℕ → List ℕ
window_text runoff k = window_line (suc k) runoff

-- The lines of a moving window: its own, and then one for each window, of which a refused one has none.
abbrev pub windows_text : ℕ → Windows → List ℕ
windows_text k w = windows_line k w.answer w.count ++ lines_of w.count (λ i. window_text (get_or w.runoffs i 0) i)

-- The lines of a request at place k, by the answer and the number of its reply.
abbrev pub request_line : ℕ → Request → Answer → ℕ → List ℕ
request_line k (ask c) answer number = call_text k c answer number
request_line k (keep n) answer number = kept_text k answer
request_line k (back n) answer number = back_text k answer
request_line k (watch w) answer number = windows_text k (replied answer w.plots w.years w.width)

-- The text of the reply to a request at place k, on a state.
abbrev pub reply_text : ℕ → State → Request → List ℕ
reply_text k st (ask c) = request_line k (ask c) (call_reply st.balance c).answer (call_reply st.balance c).number
reply_text k st (keep n) = request_line k (keep n) (keep_reply st n).answer (keep_reply st n).number
reply_text k st (back n) = request_line k (back n) (back_reply st n).answer (back_reply st n).number
reply_text k st (watch w) = request_line k (watch w) (watched_reply w).answer (watched_reply w).number
