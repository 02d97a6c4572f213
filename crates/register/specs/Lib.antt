-- Document 02's register of contracts. A line's form (Line), the register as its house currency and its lines (Register), as bytes (Buffer), its
-- closing report (Report), the calls (Calls), the claim about lists of calls and the calls' promises (Claims), why a call is turned down and its
-- number (Refusals); laws of each in the file named after it, those of calls and claims in CallLaws, those of words in letter order in OrderLaws;
-- lists of which a part is kept and lists changed element by element in MapLaws.
pub mod Buffer
pub mod BufferLaws
pub mod CallLaws
pub mod Calls
pub mod Claims
pub mod Line
pub mod LineLaws
pub mod MapLaws
pub mod OrderLaws
pub mod Refusals
pub mod Register
pub mod RegisterLaws
pub mod Report
pub mod ReportLaws
