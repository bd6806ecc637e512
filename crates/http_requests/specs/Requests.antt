-- What a request asks of a desk, once it is read.
-- This project's own rule.
use Rattle.std.specs.Prelude.{ℕ, List, ⊤}
use Rattle.base_words.specs.Texts.{IsText}
use Rattle.base_words.specs.Ids.{IsId}
use Rattle.http_routes.specs.Members.{Report, Control}

pub data Request : Type 0 where
  -- a report of a bug
  PostBug : Report → Request
  -- a control message
  PostControl : Control → Request
  -- a branch, by the words of its nodes
  PostBranch : List (List ℕ) → Request
  -- the page of a bug
  GetBug : ℕ → Request
  -- the list of a package's bugs at a version
  GetList : List ℕ → List ℕ → Request

-- a request that acts whenever it comes, or a control message that has an id, and acts once
pub data Asked : Type 0 where
  Always : Request → Asked
  Once : List ℕ → Control → Asked

-- the sender, if there is one, is a text of 1 to 200 bytes
abbrev pub HasGoodSender : Request → Type 0
HasGoodSender (PostBug report) = IsText report.from
HasGoodSender (PostControl control) = IsText control.from
HasGoodSender (PostBranch words) = ⊤
HasGoodSender (GetBug n) = ⊤
HasGoodSender (GetList name version) = ⊤

-- so it is, and an id is one
abbrev pub IsGoodAsked : Asked → Type 0
IsGoodAsked (Always request) = HasGoodSender request
IsGoodAsked (Once id control) = IsId id × IsText control.from
